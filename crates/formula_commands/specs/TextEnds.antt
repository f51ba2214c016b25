-- Why a text gave no value.
use Rattle.derivation.specs.declared.fault.TextFault.{TextFault}
use Rattle.derivation.specs.declared.fault.TextFault.TheVariants as fault
use Rattle.command_files.specs.declared.file.FileEnd.TheVariants as file
use Rattle.formula_commands.specs.declared.text.TextEnd.{TextEnd}
use Rattle.formula_commands.specs.declared.text.TextEnd.TheVariants as end

-- a fault of a text as such an end
abbrev pub end_of : TextFault → TextEnd
end_of (fault.BadText at) = end.BadText at
end_of fault.NoMemory = end.File file.NoMemory
