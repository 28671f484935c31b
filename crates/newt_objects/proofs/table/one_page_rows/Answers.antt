use Rattle.std.proofs.Common.{◌≡◌, ℕ, ◌+◌, length, slice_get, Some, get_or, arith, rules, sym, subst}
use Rattle.std.proofs.lemmas.Option.{slice_get-get_or}
use Rattle.newt_objects.specs.declared.header.Header.{Header}
use Rattle.newt_objects.specs.Headers.{Rows, IsOnlyPage, HasOnePageRows}
use Rattle.newt_objects.proofs.OnePages.{one_pages-same, one_pages-more, page_twice}
use Rattle.newt_objects.proofs.table.one_page_rows.Goals as goal
use Rattle.newt_objects.proofs.table.one_page_rows.Goals.{then-is_only_page+in_ok-add_one_page, else-is_only_page}

abbrev none : Header
none = record { number = 0; object = 0; part = 0; length = 0 }

pub returns-in_err-add_one_page-clause-twice : goal.returns-in_err-add_one_page-clause-twice
returns-in_err-add_one_page-clause-twice c = λ bad.
    page_twice c.args.headers.now c.loop-header.header-index _ (slice_get-get_or c.args.headers.now c.loop-header.header-index none (omega arith))
    c.loop-header.rows c.loop-header.invariant (c.is_only_page.ensures.0 c.if-is_only_page.true) (c.in_err-add_one_page.ensures.had (search rules))

pub loop-header-preserved : goal.loop-header-preserved
loop-header-preserved c =
    let h : Header = get_or c.args.headers.now c.loop-header.header-index none in
    let at : slice_get c.args.headers.now c.loop-header.header-index ≡ Some h = slice_get-get_or c.args.headers.now c.loop-header.header-index none (omega arith) in
    let Holds : Rows → Type 0 = λ rows. HasOnePageRows (c.loop-header.header-index + 1) c.args.headers.now rows in
    elim c.if-is_only_page.branch [
      | then-is_only_page+in_ok-add_one_page w ↦ subst Holds (sym w.rows-is)
          (one_pages-more c.args.headers.now c.loop-header.header-index h at c.loop-header.rows c.loop-header.invariant w.add_one_page.new.rows (c.is_only_page.ensures.0 w.if-is_only_page.true) w.in_ok-add_one_page.ensures.added)
      | else-is_only_page w ↦ subst Holds (sym w.rows-is)
          (one_pages-same c.args.headers.now c.loop-header.header-index h at c.loop-header.rows c.loop-header.invariant
          (λ (it : IsOnlyPage h). let yes = c.is_only_page.ensures.1 it in let no = w.if-is_only_page.false in cc))
    ]

pub returns-clause-all : goal.returns-clause-all
returns-clause-all c =
    let end : c.loop-header.header-index ≡ length c.args.headers.now = omega arith in
    subst (λ (n : ℕ). HasOnePageRows n c.args.headers.now c.loop-header.rows) end c.loop-header.invariant
