use Rattle.std.proofs.Common.{◌≡◌, ℕ, Bool, true, false, ◌||◌, List, ◌∷◌, ◌++◌, [], Option, Some, None, refl, sym, ◌∙◌, set, get_or, inl, inr}
use Rattle.std.specs.Prelude.{◌==◌, IsSome}
use Rattle.std.proofs.lemmas.Bool.{false≢true, eq-eqb, or_parts}
use Rattle.std.proofs.lemmas.List.{get_or-set_other}
use Rattle.std.proofs.Math.ListN.{get_or-append}
use Rattle.bounds_table.specs.declared.known.Known.{Known}
use Rattle.bounds_table.specs.declared.event.Event.{Event}
use Rattle.bounds_table.specs.declared.event.Event.TheVariants.{Claim, CopyWord, Clear, KeepWord, SeeKept, Split, Join}
use Rattle.bounds_table.specs.Core.{OthersKeepAll}
use Rattle.bounds_table.proofs.Workers.{live_within}
use Rattle.bounds_table.proofs.laws.others_keep_all.Goals as goal

-- another worker's entry is replaced
elsewhere : (ws : List (Option Known)) (w u : ℕ) (x : Option Known) → (u == w) ≡ false → get_or (set ws w x) u None ≡ get_or ws u None
elsewhere ws w u x other = get_or-set_other ws w u x None (λ same. false≢true (sym other ∙ eq-eqb u w same))

others_keep_all : OthersKeepAll
others_keep_all s (Claim w r t) u lawful live other = elsewhere s.workers w u _ other
others_keep_all s (CopyWord w i) u lawful live other = elsewhere s.workers w u _ other
others_keep_all s (Clear w t) u lawful live other = elsewhere s.workers w u _ other
others_keep_all s (KeepWord w i bits) u lawful live other = elsewhere s.workers w u _ other
others_keep_all s (SeeKept w i) u lawful live other = elsewhere s.workers w u _ other
others_keep_all s (Split w) u lawful live other = get_or-append s.workers _ None u (live_within s.workers u live)
others_keep_all s (Join w v) u lawful live other =
    let apart = or_parts (u == w) (u == v) other in
    elsewhere _ v u None apart.1 ∙ elsewhere s.workers w u _ apart.0

pub returns : goal.returns
returns c = others_keep_all
