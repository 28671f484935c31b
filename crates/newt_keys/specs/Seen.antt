-- How the definition sees the declarations and keys of the code.
use Rattle.std.specs.Prelude.{List, map}
use Rattle.newt_spec_store.specs.Keys as spec
use Rattle.newt_keys.specs.declared.types.IndexPart.{IndexPart}
use Rattle.newt_keys.specs.declared.types.Part.{Part}
use Rattle.newt_keys.specs.declared.types.Part.TheVariants.{Missing, Text, Int, Char, Symbol}

-- a part of a key of the code, as the definition has it (a word of these definitions)
abbrev pub said : Part → spec.Part
said Missing = spec.missing
said (Text bytes) = spec.words bytes
said (Int number) = spec.whole number
said (Char unit) = spec.letter unit
said (Symbol name) = spec.name name

-- a part of a declaration of the code, as the definition has it (a word of these definitions)
abbrev pub declared : IndexPart → spec.IndexPart
declared p = record { path = p.path; kind = p.kind; direction = p.order }

-- all parts of a key (a word of these definitions)
abbrev pub said_all : List Part → spec.Key
said_all parts = map said parts

-- all parts of a declaration (a word of these definitions)
abbrev pub declared_all : List IndexPart → spec.IndexSpec
declared_all parts = map declared parts
