use Rattle.std.proofs.Common.{◌≡◌, ℕ, List, IfSome, subst}
use Rattle.taco_io.specs.Shelf.{Shelf}
use Rattle.command_files.specs.Slots.{TextFile, IsReadWhole}
use Rattle.posed_files.specs.Problems.{java_limit, Poses}
use Rattle.posed_files.proofs.Fetching.{fetched}
use Rattle.posed_files.proofs.problem.read_problem.Goals as goal

pub returns-in-Ok-clause-fetches : goal.returns-in-Ok-clause-fetches
returns-in-Ok-clause-fetches g c =
    let old : Shelf = g.F.Files.shelf c.args.files.now in
    let new : Shelf = g.F.Files.shelf c.read_file.new.files in
    let bytes : List ℕ = c.in-Ok.bytes.items in
    let reads = c.in-Ok.ensures.reads in
    let told_at : List ℕ → Type 0 = λ name. IfSome (old.content name) (λ content. bytes ≡ content) in
    let whole_at : List ℕ → Type 0 = λ name. IsReadWhole 0 (record { name = name; limit = java_limit }) old new in
    let poses : List ℕ → Type 0 = λ b. Poses b c.args.job.now c.problem_of.result in
    fetched c.args.job.now old new bytes c.problem_of.result (subst told_at c.as_str.ensures reads.0) (subst whole_at c.as_str.ensures reads.2)
    (subst poses c.deref.ensures.value c.problem_of.ensures)
