-- The faults of a line that come from its words.
use Rattle.newt_base.specs.declared.Refusal.TheVariants.{Line as NotTheForm}
use Rattle.newt_script_words.specs.declared.fault.WordFault.{WordFault}
use Rattle.newt_script_words.specs.declared.fault.WordFault.TheVariants as word_fault
use Rattle.newt_script.specs.declared.fault.LineFault.{LineFault}
use Rattle.newt_script.specs.declared.fault.LineFault.TheVariants as line_fault

-- the fault of a line whose words are not read
abbrev pub of_words : WordFault → LineFault
of_words word_fault.Form = line_fault.Refused NotTheForm
of_words word_fault.Memory = line_fault.Memory
