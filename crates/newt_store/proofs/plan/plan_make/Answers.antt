use Rattle.std.proofs.Common.{Some, ◌≡◌, ℕ, false, List, sym, ◌∙◌, ap}
use Rattle.std.specs.Option.{is_some}
use Rattle.newt_spec_store.specs.Store.{soup_named}
use Rattle.newt_soupdir.specs.Bare.{bare_store}
use Rattle.newt_soupdir.specs.declared.rows.Directory.{Directory}
use Rattle.newt_store.proofs.Planned.{seen-some, make-exists, make-limit, make-ids, make-planned, formed-made, next-plain, made-is}
use Rattle.newt_store.specs.declared.next.Gone.TheVariants.{Nothing}
use Rattle.newt_store.proofs.plan.plan_make.Goals as goal

pub returns-then-is_some-clause-refused : goal.returns-then-is_some-clause-refused
returns-then-is_some-clause-refused c = λ texts s d.
    make-exists c.args.catalog.now texts s c.args.name.now d
    (ap (λ (n : List ℕ). is_some (soup_named n (bare_store c.args.catalog.now.directory))) (sym c.list.ensures.bytes) ∙ seen-some _ c.soup_named.result (soup_named c.list.result.now (bare_store c.args.catalog.now.directory)) c.soup_named.ensures ∙ sym c.is_some.ensures ∙ c.if-is_some.true)

pub returns-then-is_full-clause-refused : goal.returns-then-is_full-clause-refused
returns-then-is_full-clause-refused c = λ texts s d.
    make-limit c.args.catalog.now texts s c.args.name.now d
    (ap (λ (n : List ℕ). is_some (soup_named n (bare_store c.args.catalog.now.directory))) (sym c.list.ensures.bytes) ∙ seen-some _ c.soup_named.result (soup_named c.list.result.now (bare_store c.args.catalog.now.directory)) c.soup_named.ensures ∙ sym c.is_some.ensures ∙ c.if-is_some.false)
    (sym c.is_full.ensures ∙ c.if-is_full.true)

pub returns-then-catalog-eq-LAST_SIGNATURE-clause-refused : goal.returns-then-catalog-eq-LAST_SIGNATURE-clause-refused
returns-then-catalog-eq-LAST_SIGNATURE-clause-refused c = λ texts s d.
    make-ids c.args.catalog.now texts s c.args.name.now d
    (ap (λ (n : List ℕ). is_some (soup_named n (bare_store c.args.catalog.now.directory))) (sym c.list.ensures.bytes) ∙ seen-some _ c.soup_named.result (soup_named c.list.result.now (bare_store c.args.catalog.now.directory)) c.soup_named.ensures ∙ sym c.is_some.ensures ∙ c.if-is_some.false)
    (sym c.is_full.ensures ∙ c.if-is_full.false) c.if-catalog-eq-LAST_SIGNATURE.true

pub returns-clause-next : goal.returns-clause-next
returns-clause-next c =
    let none : is_some (soup_named c.args.name.now (bare_store c.args.catalog.now.directory)) ≡ false = ap (λ (n : List ℕ). is_some (soup_named n (bare_store c.args.catalog.now.directory))) (sym c.list.ensures.bytes) ∙ seen-some _ c.soup_named.result (soup_named c.list.result.now (bare_store c.args.catalog.now.directory)) c.soup_named.ensures ∙ sym c.is_some.ensures ∙ c.if-is_some.false in
    next-plain c.args.catalog.now (Some c.make_soup.new.self) Nothing c.sig.inside.0 (formed-made c.args.catalog.now.directory c.make_soup.new.self c.args.name.now c.requires c.list.ensures.named none (sym c.is_full.ensures ∙ c.if-is_full.false) c.if-catalog-eq-LAST_SIGNATURE.false
    (made-is c.args.catalog.now.directory c.in_ok-directory.directory c.make_soup.new.self c.args.name.now c.in_ok-copy.field-0 c.in_ok-sig.ensures.made c.in_ok-copy.ensures c.in_ok-directory.ensures))

pub returns-clause-planned : goal.returns-clause-planned
returns-clause-planned c = λ now texts s d.
    let none : is_some (soup_named c.args.name.now (bare_store c.args.catalog.now.directory)) ≡ false = ap (λ (n : List ℕ). is_some (soup_named n (bare_store c.args.catalog.now.directory))) (sym c.list.ensures.bytes) ∙ seen-some _ c.soup_named.result (soup_named c.list.result.now (bare_store c.args.catalog.now.directory)) c.soup_named.ensures ∙ sym c.is_some.ensures ∙ c.if-is_some.false in
    make-planned c.args.catalog.now texts s c.args.name.now now c.sig.inside.0 c.make_soup.new.self d c.list.ensures.named none (sym c.is_full.ensures ∙ c.if-is_full.false) c.if-catalog-eq-LAST_SIGNATURE.false
    (made-is c.args.catalog.now.directory c.in_ok-directory.directory c.make_soup.new.self c.args.name.now c.in_ok-copy.field-0 c.in_ok-sig.ensures.made c.in_ok-copy.ensures c.in_ok-directory.ensures)
    (c.sig.view_is ∙ c.in_ok-sig.ensures.sig ∙ ap (λ (x : Directory). x.next_soup) c.in_ok-directory.ensures)
