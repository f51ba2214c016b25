use Rattle.std.proofs.Common.{◌≡◌, ◌≤◌, drop, length, map}
use Rattle.std.specs.List.{All}
use Rattle.taco_words.specs.Numbers.{numbers_up_to}
use Rattle.taco_words.proofs.Lists.{behind}
use Rattle.taco_words.proofs.list.numbers_up_to.Given as goal

-- the numbers so far, and then those of what is left, are those of all
abbrev pub invariant-loop-word : goal.invariant-loop-word
invariant-loop-word l = record {
  whole : numbers_up_to l.most (map (λ w. w.now) l.words) ≡ behind l.entries.items (numbers_up_to l.most (map (λ w. w.now) (drop l.word-index l.words)));
  each : All (λ n. n ≤ l.most) l.entries.items;
  count : length l.entries.items ≡ l.word-index;
}
