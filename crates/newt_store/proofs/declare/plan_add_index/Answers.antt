use Rattle.std.proofs.Common.{Some, ◌≡◌, false, List, length, nat_le, sym, ◌∙◌, ap}
use Rattle.std.specs.Option.{is_some}
use Rattle.newt_spec_store.specs.Keys.{IndexSpec, paths_of, has_paths}
use Rattle.newt_soupdir.specs.Bare.{bare_soup, bare_store}
use Rattle.newt_spec_store.specs.Store.{soup_of, change_soup_of, with_index}
use Rattle.newt_soupdir.specs.declared.rows.Directory.{Directory}
use Rattle.newt_store.proofs.Declaring.{adds-index, valid-index, formed-declared, index-no-soup, index-there, index-limit, index-planned}
use Rattle.newt_store.proofs.Planned.{seen-some, next-plain}
use Rattle.newt_store.specs.declared.next.Gone.TheVariants.{Nothing}
use Rattle.newt_store.proofs.declare.plan_add_index.Goals as goal

pub returns-in_default-clause-refused : goal.returns-in_default-clause-refused
returns-in_default-clause-refused c = λ texts s d.
    index-no-soup c.args.catalog.now texts s d c.args.sig c.args.spec.now (seen-some _ c.soup_of.result (soup_of c.args.sig (bare_store c.args.catalog.now.directory)) c.soup_of.ensures ∙ ap is_some c.in_default.is)

pub returns-then-has_paths_of-clause-refused : goal.returns-then-has_paths_of-clause-refused
returns-then-has_paths_of-clause-refused c = λ texts s d.
    index-there c.args.catalog.now texts s d c.args.sig c.args.spec.now (bare_soup c.in-Some.row.now) (sym c.in-Some.ensures)
    (ap (has_paths (paths_of c.args.spec.now)) (sym c.list-specs.ensures) ∙ sym c.has_paths_of.ensures.has ∙ c.if-has_paths_of.true)

pub returns-then-is_full-clause-refused : goal.returns-then-is_full-clause-refused
returns-then-is_full-clause-refused c = λ texts s d.
    index-limit c.args.catalog.now texts s d c.args.sig c.args.spec.now (bare_soup c.in-Some.row.now) (sym c.in-Some.ensures)
    (ap (has_paths (paths_of c.args.spec.now)) (sym c.list-specs.ensures) ∙ sym c.has_paths_of.ensures.has ∙ c.if-has_paths_of.false)
    (ap (λ (specs : List IndexSpec). nat_le 16 (length specs)) (sym c.list-specs.ensures) ∙ sym c.is_full.ensures ∙ c.if-is_full.true)

pub returns-clause-next : goal.returns-clause-next
returns-clause-next c =
    let new : has_paths (paths_of c.args.spec.now) c.in-Some.row.now.specs ≡ false = ap (has_paths (paths_of c.args.spec.now)) (sym c.list-specs.ensures) ∙ sym c.has_paths_of.ensures.has ∙ c.if-has_paths_of.false in
    let few : nat_le 16 (length c.in-Some.row.now.specs) ≡ false = ap (λ (specs : List IndexSpec). nat_le 16 (length specs)) (sym c.list-specs.ensures) ∙ sym c.is_full.ensures ∙ c.if-is_full.false in
    next-plain c.args.catalog.now (Some c.add_spec.new.self) Nothing 0 (formed-declared c.args.catalog.now.directory c.add_spec.new.self c.args.sig (bare_soup c.in-Some.row.now) (with_index c.args.spec.now) (adds-index c.args.spec.now) c.requires (sym c.in-Some.ensures)
    (valid-index c.args.spec.now (bare_soup c.in-Some.row.now) c.has_paths_of.ensures.valid few new)
    (c.in_ok-add_spec.ensures.added ∙ ap (λ (x : Directory). change_soup_of c.args.sig (with_index c.in_ok-added.added) (bare_store x)) c.in_ok-directory.ensures
    ∙ ap (λ (x : IndexSpec). change_soup_of c.args.sig (with_index x) (bare_store c.args.catalog.now.directory)) c.in_ok-added.ensures))

pub returns-clause-planned : goal.returns-clause-planned
returns-clause-planned c = λ now texts s d.
    let new : has_paths (paths_of c.args.spec.now) c.in-Some.row.now.specs ≡ false = ap (has_paths (paths_of c.args.spec.now)) (sym c.list-specs.ensures) ∙ sym c.has_paths_of.ensures.has ∙ c.if-has_paths_of.false in
    let few : nat_le 16 (length c.in-Some.row.now.specs) ≡ false = ap (λ (specs : List IndexSpec). nat_le 16 (length specs)) (sym c.list-specs.ensures) ∙ sym c.is_full.ensures ∙ c.if-is_full.false in
    index-planned c.args.catalog.now texts s d c.args.sig c.args.spec.now (bare_soup c.in-Some.row.now) (sym c.in-Some.ensures) new now c.add_spec.new.self few c.has_paths_of.ensures.valid
    (c.in_ok-add_spec.ensures.added ∙ ap (λ (x : Directory). change_soup_of c.args.sig (with_index c.in_ok-added.added) (bare_store x)) c.in_ok-directory.ensures
    ∙ ap (λ (x : IndexSpec). change_soup_of c.args.sig (with_index x) (bare_store c.args.catalog.now.directory)) c.in_ok-added.ensures)
