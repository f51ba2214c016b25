-- What a text declares has words for names.
use Rattle.std.proofs.Common.{◌≡◌, ℕ, Bool, true, false, ◌&&◌, List, [], ◌∷◌, ◌++◌, length, refl, sym, ◌∙◌, ap}
use Rattle.std.specs.Prelude.{IsTrue}
use Rattle.std.specs.List.{list_all, flat_map}
use Rattle.java_lex.specs.declared.token.TokenKind.TheVariants as kind
use Rattle.java_lex.specs.declared.words.TheConstants.{CLASS, OPEN_BRACE, OPEN_PAREN, CLOSE_PAREN, COMMA}
use Rattle.java_lex.proofs.Written.{IsWordText, piece_written}
use Rattle.java_tree.specs.Trees.{Param, Method, Part, invariant, field, method, Class, Classes}
use Rattle.java_tree.specs.Print.{Word, word, symbol, modifiers_written, type_text, param_written, params_written, result_text, head_written, clause_written, part_written, class_written, tree_written}
use Rattle.taco_unit.specs.Words.{is_word}
use Rattle.round_trip.proofs.Spells.{Spellable, AllSpellable}
use Rattle.round_trip.proofs.PrintedText.{spellable_front, spellable_behind}
use Rattle.java_reader.specs.Source.{IsText}
use Rattle.round_trip.proofs.ReadAgain.{words_spell}
use Rattle.source_units.specs.Names.{is_part_named, is_named, are_named}

both : (a b : Bool) → a ≡ true → b ≡ true → (a && b) ≡ true
both true b x y = y
both false b x y = absurd (cc)

word_is : (t : List ℕ) → IsWordText t → IsTrue (is_word t)
word_is [] is = absurd is
word_is (b ∷ bs) (begins, all) = both _ _ begins all

named : (t : List ℕ) → Spellable (false, kind.Word t) → IsTrue (is_word t)
named t good = word_is t (piece_written 0 (t ++ 32 ∷ []) (length t) _ (good.piece 0 [])).0

-- a name behind others
last_named : (front : List Word) (t : List ℕ) → AllSpellable (front ++ word false t) → IsTrue (is_word t)
last_named front t good = named t (spellable_behind front (word false t) good).0

parameter_named : (p : Param) → AllSpellable (param_written p) → IsTrue (is_word p.name.text)
parameter_named p good = last_named (modifiers_written p.mods ++ word false (type_text p.kind)) p.name.text good

more_named : (ps : List Param) → AllSpellable (flat_map (λ q. symbol false COMMA.now ++ param_written q) ps) → IsTrue (list_all (λ (p : Param). is_word p.name.text) ps)
more_named [] good = refl
more_named (p ∷ ps) good =
    let first = spellable_front (symbol false COMMA.now ++ param_written p) (flat_map (λ q. symbol false COMMA.now ++ param_written q) ps) good in
    let behind = spellable_behind (symbol false COMMA.now ++ param_written p) (flat_map (λ q. symbol false COMMA.now ++ param_written q) ps) good in
    both _ _ (parameter_named p first.1) (more_named ps behind)

parameters_named : (ps : List Param) → AllSpellable (params_written ps) → IsTrue (list_all (λ (p : Param). is_word p.name.text) ps)
parameters_named [] good = refl
parameters_named (p ∷ ps) good =
    both _ _ (parameter_named p (spellable_front (param_written p) (flat_map (λ q. symbol false COMMA.now ++ param_written q) ps) good)) (more_named ps (spellable_behind (param_written p) (flat_map (λ q. symbol false COMMA.now ++ param_written q) ps) good))

part_named : (p : Part) → AllSpellable (part_written p) → IsTrue (is_part_named p)
part_named (invariant at e) good = refl
part_named (field mods k i) good = last_named (modifiers_written mods ++ word false (type_text k)) i.text (spellable_front ((modifiers_written mods ++ word false (type_text k)) ++ word false i.text) _ good)
part_named (method m) good =
    let before = flat_map clause_written m.spec ++ modifiers_written m.mods in
    let head : AllSpellable (head_written m.result m.name m.params) = spellable_behind before (head_written m.result m.name m.params) (spellable_front (before ++ head_written m.result m.name m.params) _ good) in
    both _ _ (named m.name.text head.1.0) (parameters_named m.params (spellable_front (params_written m.params) (symbol false CLOSE_PAREN.now) head.1.1.1))

parts_named : (ps : List Part) → AllSpellable (flat_map part_written ps) → IsTrue (list_all is_part_named ps)
parts_named [] good = refl
parts_named (p ∷ ps) good = both _ _ (part_named p (spellable_front (part_written p) (flat_map part_written ps) good)) (parts_named ps (spellable_behind (part_written p) (flat_map part_written ps) good))

class_named : (c : Class) → AllSpellable (class_written c) → IsTrue (is_named c)
class_named c good =
    let front = (modifiers_written c.mods ++ word false CLASS.now) ++ word false c.name.text in
    let body = spellable_behind front _ good in
    both _ _ (last_named (modifiers_written c.mods ++ word false CLASS.now) c.name.text (spellable_front front _ good))
    (parts_named c.members (spellable_front (flat_map part_written c.members) _ body.1))

pub classes_named : (cs : Classes) → AllSpellable (tree_written cs) → IsTrue (are_named cs)
classes_named [] good = refl
classes_named (c ∷ cs) good = both _ _ (class_named c (spellable_front (class_written c) (tree_written cs) good)) (classes_named cs (spellable_behind (class_written c) (tree_written cs) good))

pub text_named : (bytes : List ℕ) (cs : Classes) → IsText bytes cs → IsTrue (are_named cs)
text_named bytes cs text = classes_named cs (words_spell bytes text.tokens cs text.cut text.parse)
