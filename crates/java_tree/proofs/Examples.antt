-- Worked rows: tokens of small texts, and their trees.
use Rattle.std.proofs.Common.{ℕ, ◌+◌, List, Some, [], ◌∷◌, false, refl, inl, codes, length, lit≤}
use Rattle.java_lex.specs.declared.token.Token.{Token}
use Rattle.java_lex.specs.declared.token.TokenKind.TheVariants.{Word, Symbol, End}
use Rattle.java_tree.specs.declared.names.TypeTree.TheVariants.{Flag}
use Rattle.java_tree.specs.Trees.{negation, named, gives_back, next, done, method}
use Rattle.java_tree.specs.Members.{one_part}
use Rattle.java_tree.specs.Reading.{Parse}

-- `class L { }`
pub empty_class : Parse
    (record { kind = Word (codes "class"); jml = false; from = 0; to = 5 } ∷ record { kind = Word (codes "L"); jml = false; from = 6; to = 7 }
    ∷ record { kind = Symbol (codes "{"); jml = false; from = 8; to = 9 } ∷ record { kind = Symbol (codes "}"); jml = false; from = 10; to = 11 }
    ∷ record { kind = End; jml = false; from = 12; to = 12 } ∷ [])
    (record { mods = []; name = record { text = codes "L"; at = 6 }; members = [] } ∷ [])
empty_class = record {
  levels = 0;
  parse = (
    0,
    _,
    (
      0,
      _,
      inl (refl, refl),
      (
        0,
        _,
        (0, (refl, refl)),
        (
          0,
          _,
          (0, _, ([], refl, refl, refl, refl), (0, _, (_, refl, refl, refl), (0, _, (_, (refl, refl), refl, refl), (0, _, (_, refl, refl, refl), (0, _, ([], refl, (refl, refl)), (_, refl, refl, refl)))))),
          (refl, refl),
        ),
      ),
    ),
    (_, refl, refl, refl),
  );
}

abbrev word : List ℕ → ℕ → Token
word bytes from = record { kind = Word bytes; jml = false; from = from; to = from + length bytes }

abbrev symbol : List ℕ → ℕ → Token
symbol bytes from = record { kind = Symbol bytes; jml = false; from = from; to = from + length bytes }

-- `class A { boolean f ( ) { return ! a ; } }`
pub negation_returned : Parse
    (word (codes "class") 0 ∷ word (codes "A") 6 ∷ symbol (codes "{") 8 ∷ word (codes "boolean") 10 ∷ word (codes "f") 18 ∷ symbol (codes "(") 20 ∷ symbol (codes ")") 22
    ∷ symbol (codes "{") 24 ∷ word (codes "return") 26 ∷ symbol (codes "!") 33 ∷ word (codes "a") 35 ∷ symbol (codes ";") 37 ∷ symbol (codes "}") 39 ∷ symbol (codes "}") 41
    ∷ record { kind = End; jml = false; from = 42; to = 42 } ∷ [])
    (record {
      mods = [];
      name = record { text = codes "A"; at = 6 };
      members = method (record {
        spec = [];
        mods = [];
        result = Some Flag;
        name = record { text = codes "f"; at = 18 };
        params = [];
        body = next (gives_back 26 (Some (negation 33 (named 35 (record { text = codes "a"; at = 35 }))))) done;
      }) ∷ [];
    } ∷ [])
negation_returned =
    record {
      levels = 0;
      parse = (
        0,
        _,
        (
          0,
          _,
          inl (refl, refl),
          (
            0,
            _,
            (0, (refl, refl)),
            (
              0,
              _,
              (
                0,
                _,
                ([], refl, refl, refl, refl),
                (
                  0,
                  _,
                  (_, refl, refl, refl),
                  (
                    0,
                    _,
                    (_, (refl, refl), refl, refl),
                    (
                      0,
                      _,
                      (_, refl, refl, refl),
                      (
                        0,
                        _,
                        (
                          one_part _ ∷ [],
                          refl,
                          (
                            0,
                            _,
                            (
                              0,
                              _,
                              inl (refl, (refl, refl)),
                              (
                                0,
                                _,
                                ([], refl, refl, refl, refl),
                                (
                                  0,
                                  _,
                                  (_, refl, refl, refl),
                                  (
                                    0,
                                    _,
                                    (_, (refl, refl), refl, refl),
                                    (
                                      0,
                                      _,
                                      (_, refl, refl, refl),
                                      (
                                        0,
                                        _,
                                        (refl, refl),
                                        (
                                          0,
                                          _,
                                          (_, refl, refl, refl),
                                          (0, _, (_, refl, refl, refl), (0, _, (0, (0, _, (0, _, (_, (refl, refl), refl, refl), (0, _, (0, (lit≤ tt, (1, (0, _, (_, (refl, refl), refl, refl), (1, _, (refl, lit≤ tt, refl), (1, (refl, (_, (refl, refl), refl, refl)), refl))), refl)), refl), (_, refl, refl, refl))), (refl, refl)), refl), (_, refl, refl, refl))),
                                        ),
                                      ),
                                    ),
                                  ),
                                ),
                              ),
                            ),
                            (refl, refl),
                          ),
                        ),
                        (_, refl, refl, refl),
                      ),
                    ),
                  ),
                ),
              ),
              (refl, refl),
            ),
          ),
        ),
        (_, refl, refl, refl),
      );
    }
