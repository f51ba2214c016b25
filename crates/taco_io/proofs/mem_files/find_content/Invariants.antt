use Rattle.std.proofs.Common.{◌≡◌, drop}
use Rattle.taco_io.specs.Slots.{content_of}
use Rattle.taco_io.proofs.mem_files.find_content.Given as goal

-- what is left finds what the whole finds
abbrev pub invariant-loop-file : goal.invariant-loop-file
invariant-loop-file l = content_of (drop l.file-index l.contents) l.name ≡ content_of l.contents l.name
