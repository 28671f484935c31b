-- The entry was read, or is read now.
use Rattle.std.proofs.Common.{arith, ◌≡◌, ◌∙◌, ap, refl, subst, ℕ, Option}
use Rattle.newt_host.proofs.Outside.{NoFault-refl}
use Rattle.newt_engine_hits.proofs.Reading.{asked-read, is-read, not-read}
use Rattle.std.specs.Prelude.{IfSome}
use Rattle.std.proofs.lemmas.Result.{IfOk-weaker}
use Rattle.newt_spec_store.specs.Store.{Entry}
use Rattle.newt_store_change.specs.Entries.{plain_entry}
use Rattle.newt_store_change.specs.declared.entry.Entry as code
use Rattle.newt_engine_cursors.specs.Replies.{entry_reply, hit_reply, shown_reply}
use Rattle.newt_engine_cursors.specs.declared.show.Shown.{Shown}
use Rattle.newt_engine_cursors.proofs.show.show_hit.Goals as goal

pub returns-in-Some-clause-shown : goal.returns-in-Some-clause-shown
returns-in-Some-clause-shown g c t x is there =
    (λ i. entry_reply (is.0 i) (plain_entry c.in-Some.entry))
    ∙ ap (λ (e : Entry). entry_reply x.unit e) (subst (λ (o : Option code.Entry). IfSome o (λ e. plain_entry e ≡ x.entry)) c.in-Some.is is.2)

pub returns-clause-shown : goal.returns-clause-shown
returns-clause-shown g c t x is there =
    IfOk-weaker c.read_and_show.result (λ (shown : Shown). shown_reply shown ≡ entry_reply c.args.hit.unit x.entry) (λ (shown : Shown). shown_reply shown ≡ hit_reply x)
    (λ shown e. e ∙ ap (λ (u : ℕ). entry_reply u x.entry) is.0) (c.read_and_show.ensures.shown t x.entry there)

pub returns-in-Some-clause-reading : goal.returns-in-Some-clause-reading
returns-in-Some-clause-reading g c = is-read (not-read c.requires) (NoFault-refl _) (asked-read refl)

pub returns-in-Some-clause-fetches : goal.returns-in-Some-clause-fetches
returns-in-Some-clause-fetches g c t u = omega arith

pub returns-in-Some-clause-pages : goal.returns-in-Some-clause-pages
returns-in-Some-clause-pages g c at u = omega arith
