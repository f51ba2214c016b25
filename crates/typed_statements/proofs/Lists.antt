-- The lemmas on what is reported, for this crate's attributes.
use Rattle.declared_names.proofs.Told.{told_leaves, wholes}

-- what a form itself has
pub ruleset leaves = (told_leaves)

-- parts of a whole
pub ruleset parts = (wholes)
