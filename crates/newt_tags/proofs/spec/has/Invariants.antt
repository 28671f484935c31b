use Rattle.std.proofs.Common.{◌≡◌, drop}
use Rattle.newt_spec_query.specs.Tags.{is_among}
use Rattle.newt_tags.specs.Masks.{selected}
use Rattle.newt_tags.proofs.spec.has.Given as goal

-- the bits that are left select from the symbols that are left
abbrev pub invariant-loop-symbol : goal.invariant-loop-symbol
invariant-loop-symbol l = is_among (selected l.rest (drop l.symbol-index l.symbols)) l.name ≡ is_among (selected l.fn.mask l.fn.symbols) l.fn.name
