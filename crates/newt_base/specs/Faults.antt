-- What the faults of the kit's hexadecimal reader become.
use Rattle.hex.specs.declared.error.FromHexError.{FromHexError}
use Rattle.hex.specs.declared.error.FromHexError.TheVariants.{InvalidHexCharacter, OddLength, InvalidStringLength, OutOfMemory}
use Rattle.newt_base.specs.declared.hexadecimal.HexFault.{HexFault}
use Rattle.newt_base.specs.declared.hexadecimal.HexFault.TheVariants.{NotHex, Memory}

-- out of memory stays out of memory; every other fault is one of the text
abbrev pub hex_fault : FromHexError → HexFault
hex_fault OutOfMemory = Memory
hex_fault (InvalidHexCharacter c i) = NotHex
hex_fault OddLength = NotHex
hex_fault InvalidStringLength = NotHex
