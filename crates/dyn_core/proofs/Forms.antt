-- One equation for each form of a program: what `ends`, `is_kinded`, `starless` and `unrolled` give of it.
use Rattle.std.proofs.Common.{◌≡◌, ℕ, Bool, true, false, List, [], ◌∷◌, refl}
use Rattle.std.specs.Prelude.{if◌then◌else◌, map, flat_map}
use Rattle.std.specs.List.{list_all}
use Rattle.std.specs.Option.{option_to_list}
use Rattle.std.proofs.lemmas.List.Folds.{list_all-map, flat_map-map}
use Rattle.taco_unit.specs.declared.kind.Kind.{Kind}
use Rattle.taco_unit.specs.declared.kind.Kind.TheVariants.{Flag}
use Rattle.heap_core.specs.Posed.{Posed}
use Rattle.dyn_core.specs.declared.prog.Act.{Act}
use Rattle.dyn_core.specs.declared.prog.Prog.{Prog, fold_out-Prog}
use Rattle.dyn_core.specs.declared.prog.Prog.TheVariants as q
use Rattle.dyn_core.specs.declared.state.DynState.{DynState}
use Rattle.dyn_core.specs.Actions.{acted}
use Rattle.dyn_core.specs.Runs.{LastStates, passes, one_by_one, up_to, ends_step, ends}
use Rattle.dyn_core.specs.Kinds.{is_var, is_kinded_act, kinded_step, is_kinded}
use Rattle.dyn_core.specs.Unrolled.{starless_step, starless, repeated, unrolled_step, unrolled}

-- ## the last states

pub ends_act : (p : Posed) (n : ℕ) (a : Act) (s : DynState) → ends p n (q.Act a) s ≡ option_to_list (acted p a s)
ends_act p n a s = rw (fold_out-Prog LastStates (ends_step p n) (q.Act a), q.outs-Act a) refl

pub ends_test : (p : Posed) (n x : ℕ) (b : Bool) (s : DynState) → ends p n (q.Test x b) s ≡ (if passes x b s then s ∷ [] else [])
ends_test p n x b s = rw (fold_out-Prog LastStates (ends_step p n) (q.Test x b), q.outs-Test x b) refl

pub ends_seq : (p : Posed) (n : ℕ) (parts : List Prog) (s : DynState) → ends p n (q.Seq parts) s ≡ one_by_one (map (ends p n) parts) s
ends_seq p n parts s = rw (fold_out-Prog LastStates (ends_step p n) (q.Seq parts), q.outs-Seq parts) refl

pub ends_choice : (p : Posed) (n : ℕ) (parts : List Prog) (s : DynState) → ends p n (q.Choice parts) s ≡ flat_map (λ x. ends p n x s) parts
ends_choice p n parts s = rw (fold_out-Prog LastStates (ends_step p n) (q.Choice parts), q.outs-Choice parts) (flat_map-map (λ e. e s) (ends p n) parts)

pub ends_star : (p : Posed) (n : ℕ) (body : Prog) (s : DynState) → ends p n (q.Star body) s ≡ up_to n (ends p n body) s
ends_star p n body s = rw (fold_out-Prog LastStates (ends_step p n) (q.Star body), q.outs-Star body) refl

-- all forms of the last states
pub ruleset ends_forms = (ends_act, ends_test, ends_seq, ends_choice, ends_star)

-- ## kinds

pub kinded_act : (p : Posed) (kinds : List Kind) (a : Act) → is_kinded p kinds (q.Act a) ≡ is_kinded_act p kinds a
kinded_act p kinds a = rw (fold_out-Prog Bool (kinded_step p kinds) (q.Act a), q.outs-Act a) refl

pub kinded_test : (p : Posed) (kinds : List Kind) (x : ℕ) (b : Bool) → is_kinded p kinds (q.Test x b) ≡ is_var kinds x Flag
kinded_test p kinds x b = rw (fold_out-Prog Bool (kinded_step p kinds) (q.Test x b), q.outs-Test x b) refl

pub kinded_seq : (p : Posed) (kinds : List Kind) (parts : List Prog) → is_kinded p kinds (q.Seq parts) ≡ list_all (is_kinded p kinds) parts
kinded_seq p kinds parts = rw (fold_out-Prog Bool (kinded_step p kinds) (q.Seq parts), q.outs-Seq parts) (list_all-map (λ b. b) (is_kinded p kinds) parts)

pub kinded_choice : (p : Posed) (kinds : List Kind) (parts : List Prog) → is_kinded p kinds (q.Choice parts) ≡ list_all (is_kinded p kinds) parts
kinded_choice p kinds parts = rw (fold_out-Prog Bool (kinded_step p kinds) (q.Choice parts), q.outs-Choice parts) (list_all-map (λ b. b) (is_kinded p kinds) parts)

pub kinded_star : (p : Posed) (kinds : List Kind) (body : Prog) → is_kinded p kinds (q.Star body) ≡ is_kinded p kinds body
kinded_star p kinds body = rw (fold_out-Prog Bool (kinded_step p kinds) (q.Star body), q.outs-Star body) refl

-- all forms of kinds
pub ruleset kinded_forms = (kinded_act, kinded_test, kinded_seq, kinded_choice, kinded_star)

-- ## programs without iterations

pub starless_act : (a : Act) → starless (q.Act a) ≡ true
starless_act a = rw (fold_out-Prog Bool starless_step (q.Act a), q.outs-Act a) refl

pub starless_test : (x : ℕ) (b : Bool) → starless (q.Test x b) ≡ true
starless_test x b = rw (fold_out-Prog Bool starless_step (q.Test x b), q.outs-Test x b) refl

pub starless_seq : (parts : List Prog) → starless (q.Seq parts) ≡ list_all starless parts
starless_seq parts = rw (fold_out-Prog Bool starless_step (q.Seq parts), q.outs-Seq parts) (list_all-map (λ b. b) starless parts)

pub starless_choice : (parts : List Prog) → starless (q.Choice parts) ≡ list_all starless parts
starless_choice parts = rw (fold_out-Prog Bool starless_step (q.Choice parts), q.outs-Choice parts) (list_all-map (λ b. b) starless parts)

pub starless_star : (body : Prog) → starless (q.Star body) ≡ false
starless_star body = rw (fold_out-Prog Bool starless_step (q.Star body), q.outs-Star body) refl

-- all forms of `starless`
pub ruleset starless_forms = (starless_act, starless_test, starless_seq, starless_choice, starless_star)

-- ## iterations written out

pub unrolled_act : (n : ℕ) (a : Act) → unrolled n (q.Act a) ≡ q.Act a
unrolled_act n a = rw (fold_out-Prog Prog (unrolled_step n) (q.Act a), q.outs-Act a) refl

pub unrolled_test : (n x : ℕ) (b : Bool) → unrolled n (q.Test x b) ≡ q.Test x b
unrolled_test n x b = rw (fold_out-Prog Prog (unrolled_step n) (q.Test x b), q.outs-Test x b) refl

pub unrolled_seq : (n : ℕ) (parts : List Prog) → unrolled n (q.Seq parts) ≡ q.Seq (map (unrolled n) parts)
unrolled_seq n parts = rw (fold_out-Prog Prog (unrolled_step n) (q.Seq parts), q.outs-Seq parts) refl

pub unrolled_choice : (n : ℕ) (parts : List Prog) → unrolled n (q.Choice parts) ≡ q.Choice (map (unrolled n) parts)
unrolled_choice n parts = rw (fold_out-Prog Prog (unrolled_step n) (q.Choice parts), q.outs-Choice parts) refl

pub unrolled_star : (n : ℕ) (body : Prog) → unrolled n (q.Star body) ≡ repeated n (unrolled n body)
unrolled_star n body = rw (fold_out-Prog Prog (unrolled_step n) (q.Star body), q.outs-Star body) refl

-- all forms of `unrolled`
pub ruleset unrolled_forms = (unrolled_act, unrolled_test, unrolled_seq, unrolled_choice, unrolled_star)
