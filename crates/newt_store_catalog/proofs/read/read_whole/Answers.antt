use Rattle.std.proofs.Common.{arith, ℕ, ◌*◌, List, length, ap, sym, ◌∙◌, subst, map as map_list, Vec, Global}
use Rattle.std.proofs.lemmas.Simd.{map-map}
use Rattle.newt_host.specs.Outside.{Spends}
use Rattle.newt_host.proofs.Outside.{NoFault-append}
use Rattle.newt_spec_store.specs.Cost.{entry_pages}
use Rattle.newt_spec_store.specs.Image.{entry_bytes}
use Rattle.newt_spec_store.specs.Store.{Entry}
use Rattle.newt_entries.specs.declared.row.LargeAt.{LargeAt}
use Rattle.newt_entries.specs.Entry.{row_at, filled}
use Rattle.newt_store_catalog.specs.Calls.{AreThere, larges_pages, row_pages}
use Rattle.newt_store_catalog.specs.Reading.{HaveBytes}
use Rattle.newt_store_catalog.proofs.ReadLarges.{its_bytes, have-bytes, entry-is, holds-on, spends-at, spent-both, whole-spent, row-spent}
use Rattle.newt_store_catalog.proofs.Sizes.{entry-pages}
use Rattle.newt_store_catalog.proofs.Exits.{can-on, no-value, reads-on, read-fails, read-memory, read-after}
use Rattle.newt_store_catalog.proofs.read.read_whole.Goals as goal

pub read_larges-requires-clause-can : goal.read_larges-requires-clause-can
read_larges-requires-clause-can g c = can-on c.in_ok-row.ensures.reads.book

pub read_larges-requires-clause-there : goal.read_larges-requires-clause-there
read_larges-requires-clause-there g c = subst (AreThere c.args.objects.now) (sym c.list.ensures) c.in_ok-row.ensures.any.there

pub returns-in_err-row : goal.returns-in_err-row
returns-in_err-row g c =
    let o = g.H.Host.outside in
    let r = c.from_residual.result in
    let fails = c.from_residual.ensures.1 in
    record {
      entry = λ tells texts sig e ids holds laid. record {
        entry = no-value r c.in_err-row.field-0.0 _ fails;
        costs = row-spent sig e ids laid.larges_are.each_named (g.P.PageBook.place c.args.book.now) (o c.args.host.now) (o c.read_row.new.host) (c.read_row.ensures.row tells texts (entry_bytes sig e ids) holds laid.bytes_are).costs;
      };
      valid = no-value r c.in_err-row.field-0.0 _ fails;
      pages = no-value r c.in_err-row.field-0.0 _ fails;
      reads = record { book = c.read_row.ensures.reads.book; ends = read-fails r c.in_err-row.field-0.0 fails c.in_err-row.ensures.reads.ends };
    }

pub returns-in_err-larges : goal.returns-in_err-larges
returns-in_err-larges g c =
    let o = g.H.Host.outside in
    let u : ℕ = g.P.PageBook.place c.args.book.now in
    let v : ℕ = g.P.PageBook.place c.read_row.new.book in
    let row = c.in_ok-row.row in
    let one = c.in_ok-row.ensures in
    let book = one.reads.book in
    let r = c.from_residual-in_err-larges.result in
    let fails = c.from_residual-in_err-larges.ensures.1 in
    record {
      entry = λ tells texts sig e ids holds laid.
          let its = one.row tells texts (entry_bytes sig e ids) holds laid.bytes_are in
          let still = holds-on texts u v (o c.args.host.now).now (o c.read_row.new.host).now book.same_place book.looks.moment holds in
          let have = subst (λ (ls : List LargeAt). HaveBytes texts ls (its_bytes e ids)) (sym c.list.ensures) (have-bytes texts c.args.id sig e ids laid row its.row) in
          record {
            entry = no-value r c.in_err-larges.field-0.0 _ fails;
            costs = whole-spent sig e ids laid.larges_are.each_named u v (o c.args.host.now) (o c.read_row.new.host) (o c.read_larges.new.host) book.same_place its.costs (c.read_larges.ensures.larges tells texts (its_bytes e ids) still have).costs;
          };
      valid = no-value r c.in_err-larges.field-0.0 _ fails;
      pages = no-value r c.in_err-larges.field-0.0 _ fails;
      reads = record {
        book = reads-on book c.read_larges.ensures.reads.book;
        ends = read-after r book.same_place book.looks one.reads.ends.no_fault (read-fails r c.in_err-larges.field-0.0 fails c.in_err-larges.ensures.reads.ends);
      };
    }

pub returns-in_err-graph : goal.returns-in_err-graph
returns-in_err-graph g c =
    let o = g.H.Host.outside in
    let u : ℕ = g.P.PageBook.place c.args.book.now in
    let v : ℕ = g.P.PageBook.place c.read_row.new.book in
    let row = c.in_ok-row.row in
    let one = c.in_ok-row.ensures in
    let book = one.reads.book in
    let r = c.from_residual-in_err-graph.result in
    let fails = c.from_residual-in_err-graph.ensures.1 in
    record {
      entry = λ tells texts sig e ids holds laid.
          let its = one.row tells texts (entry_bytes sig e ids) holds laid.bytes_are in
          let still = holds-on texts u v (o c.args.host.now).now (o c.read_row.new.host).now book.same_place book.looks.moment holds in
          let have = subst (λ (ls : List LargeAt). HaveBytes texts ls (its_bytes e ids)) (sym c.list.ensures) (have-bytes texts c.args.id sig e ids laid row its.row) in
          record {
            entry = no-value r _ _ fails;
            costs = whole-spent sig e ids laid.larges_are.each_named u v (o c.args.host.now) (o c.read_row.new.host) (o c.read_larges.new.host) book.same_place its.costs (c.in_ok-larges.ensures.larges tells texts (its_bytes e ids) still have).costs;
          };
      valid = no-value r _ _ fails;
      pages = no-value r _ _ fails;
      reads = record { book = reads-on book c.in_ok-larges.ensures.reads.book; ends = read-memory r (NoFault-append one.reads.ends.no_fault c.in_ok-larges.ensures.reads.ends.no_fault) fails };
    }

pub returns-clause-entry : goal.returns-clause-entry
returns-clause-entry g c = λ tells texts sig e ids holds laid.
    let o = g.H.Host.outside in
    let u : ℕ = g.P.PageBook.place c.args.book.now in
    let v : ℕ = g.P.PageBook.place c.read_row.new.book in
    let row = c.in_ok-row.row in
    let one = c.in_ok-row.ensures in
    let book = one.reads.book in
    let its = one.row tells texts (entry_bytes sig e ids) holds laid.bytes_are in
    let still = holds-on texts u v (o c.args.host.now).now (o c.read_row.new.host).now book.same_place book.looks.moment holds in
    let have = subst (λ (ls : List LargeAt). HaveBytes texts ls (its_bytes e ids)) (sym c.list.ensures) (have-bytes texts c.args.id sig e ids laid row its.row) in
    let got = c.in_ok-larges.ensures.larges tells texts (its_bytes e ids) still have in
    let graph = c.in_ok-graph.ensures.value ∙ ap (filled (map_list row_at row.larges) row.skeleton) got.larges in
    record {
      entry = ◌∙◌ {A = Entry} (λ i. record { uid = row.uid; time = row.time; graph = graph i }) (entry-is texts c.args.id sig e ids laid row its.row);
      costs = whole-spent sig e ids laid.larges_are.each_named u v (o c.args.host.now) (o c.read_row.new.host) (o c.read_larges.new.host) book.same_place its.costs got.costs;
    }

pub returns-clause-pages : goal.returns-clause-pages
returns-clause-pages g c =
    let o = g.H.Host.outside in
    let u : ℕ = g.P.PageBook.place c.args.book.now in
    let v : ℕ = g.P.PageBook.place c.read_row.new.book in
    let row = c.in_ok-row.row in
    let one = c.in_ok-row.ensures in
    let p = o c.read_row.new.host in
    let q = o c.read_larges.new.host in
    let read = c.in_ok-larges in
    let graph = c.in_ok-graph.graph in
    let items_of = λ (bytes : Vec ℕ Global). bytes.items in
    let bs : List (List ℕ) = map_list items_of read.larges.items in
    let lengths = map-map (λ (b : List ℕ). length b) items_of read.larges.items
    ∙ read.ensures.lengths ∙ ap (map_list (λ (l : LargeAt). l.length)) c.list.ensures in
    let all = entry-pages row bs one.any.fits lengths graph row.uid row.time
    c.in_ok-graph.ensures.value in
    let larges = subst (λ (ls : List LargeAt). Spends v 0 (512 * larges_pages ls) p q)
    c.list.ensures read.ensures.pages in
    let total = entry_pages (record { uid = row.uid; time = row.time; graph = graph }) in
    spent-both u (row_pages row) (larges_pages row.larges) total (o c.args.host.now) p q
    (omega (arith, all)) one.pages
    (spends-at u v (512 * larges_pages row.larges) p q one.reads.book.same_place larges)

pub returns-clause-reads : goal.returns-clause-reads
returns-clause-reads g c =
    let one = c.in_ok-row.ensures.reads in
    let two = c.in_ok-larges.ensures.reads in
    record { book = reads-on one.book two.book; ends = record { cause = tt; no_fault = NoFault-append one.ends.no_fault two.ends.no_fault } }
