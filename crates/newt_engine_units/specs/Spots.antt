-- Where the entry of an alias is. That an alias resolves to its entry or to nil is Newton's (Newton Programmer's Guide 2.0, entry aliases).
use Rattle.std.specs.Prelude.{ℕ, Option, option_map, option_and_then}
use Rattle.newt_spec_store.specs.Store.{Store, entry_of, soup_of}
use Rattle.newt_spec_world.specs.Alias.{Spot}
use Rattle.newt_spec_world.specs.Answer.{or_nil}
use Rattle.newt_spec_world.specs.Reply.{Reply}

-- the entry of these signatures in the store of a unit
abbrev pub spot_in : ℕ → ℕ → ℕ → Store → Option Spot
spot_in unit soup uid s = option_and_then (λ p. option_map (λ e. record { unit = unit; soup = p; entry = e }) (entry_of uid p)) (soup_of soup s)

-- the reply that says where it is, or nil
abbrev pub spot_reply : Option Spot → Reply
spot_reply found = or_nil (λ s. Reply.where_is s.unit s.soup.name s.entry.uid) found
