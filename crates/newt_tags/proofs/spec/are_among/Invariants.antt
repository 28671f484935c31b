use Rattle.std.proofs.Common.{◌≡◌, drop}
use Rattle.std.specs.List.{list_all}
use Rattle.newt_spec_query.specs.Tags.{is_among}
use Rattle.newt_tags.specs.Masks.{selected}
use Rattle.newt_tags.proofs.spec.are_among.Given as goal

-- the bits that are left select from the symbols that are left
abbrev pub invariant-loop-symbol : goal.invariant-loop-symbol
invariant-loop-symbol l = list_all (is_among l.names) (selected l.rest (drop l.symbol-index l.symbols)) ≡ list_all (is_among l.fn.names) (selected l.fn.mask l.fn.symbols)
