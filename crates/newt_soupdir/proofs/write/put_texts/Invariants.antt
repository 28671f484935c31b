use Rattle.std.proofs.Common.{◌≡◌, ◌++◌, ◌∷◌, length, take}
use Rattle.std.specs.List.{flat_map}
use Rattle.newt_spec_store.specs.Cost.{text_bytes}
use Rattle.newt_soupdir.proofs.write.put_texts.Given as goal

abbrev pub invariant-loop-text : goal.invariant-loop-text
invariant-loop-text l = l.out.items ≡ l.fn.out.items ++ (length l.texts ∷ flat_map text_bytes (take l.text-index l.texts))
