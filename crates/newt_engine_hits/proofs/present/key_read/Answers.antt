-- The entry decides.
use Rattle.std.proofs.Common.{◌≡◌, ◌∙◌, ap, sym, subst, Option, option_and_then, option_map}
use Rattle.std.specs.Prelude.{IfOk}
use Rattle.newt_spec_store.specs.Keys.{Key}
use Rattle.newt_spec_store.specs.Store.{Entry, TagTable, soup_of}
use Rattle.newt_query.specs.Kept.{kept_key}
use Rattle.newt_store_change.specs.Entries.{entry_said, plain_entry}
use Rattle.newt_engine_hits.proofs.present.key_read.Goals as goal

pub returns-in-Some-clause-found : goal.returns-in-Some-clause-found
returns-in-Some-clause-found g c outside eight stands blocks uid s on read =
    subst (λ (key : Option Key). IfOk c.kept_key.result (λ f. f ≡ key))
    (ap (λ (t : Option TagTable). kept_key c.args.query.now.spec t c.in-Some.entry.graph) (c.table_on-table.ensures outside eight stands blocks s on)
    ∙ ap (option_and_then (λ (e : Entry). kept_key c.args.query.now.spec (option_and_then (λ p. p.tags) (soup_of c.args.soup s)) e.graph)) (sym (ap entry_said c.in-Some.is) ∙ read))
    c.kept_key.ensures.value

pub returns-in-None-clause-found : goal.returns-in-None-clause-found
returns-in-None-clause-found g c outside eight stands blocks uid s on read =
    ap (option_and_then (λ (e : Entry). kept_key c.args.query.now.spec (option_and_then (λ p. p.tags) (soup_of c.args.soup s)) e.graph)) (sym (ap entry_said c.in-None.is) ∙ read)
