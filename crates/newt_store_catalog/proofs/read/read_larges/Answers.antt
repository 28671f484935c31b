use Rattle.std.proofs.Common.{◌≡◌, ◌++◌, ◌∷◌, [], rules, ℕ, List, ap, ◌∙◌, length, map as map_list, Vec, Global}
use Rattle.std.proofs.lemmas.List.{map-append}
use Rattle.newt_host.proofs.Outside.{NoFault-append}
use Rattle.newt_entries.specs.declared.row.LargeAt.{LargeAt}
use Rattle.newt_store_catalog.proofs.Exits.{can-on, no-value, reads-on, read-fails, read-memory, read-after}
use Rattle.newt_store_catalog.proofs.ReadLarges.{head-of, next-there, goes-on, stops-on, went-all, went-some, lengths-on, holds-on, spends-at}
use Rattle.newt_store_catalog.proofs.Lying.{there-first, there-others}
use Rattle.newt_store_catalog.proofs.Sizes.{spent-most, spent-next}
use Rattle.newt_store_catalog.proofs.read.read_larges.Goals as goal

abbrev items_of : List (Vec ℕ Global) → List (List ℕ)
items_of larges = map_list (λ bytes. bytes.items) larges

pub read_large-requires-clause-can : goal.read_large-requires-clause-can
read_large-requires-clause-can g c = can-on c.loop-left.invariant.reads

pub read_large-requires-clause-there : goal.read_large-requires-clause-there
read_large-requires-clause-there g c = there-first c.args.objects.now c.loop-left.left.now _ c.loop-left.invariant.there c.in-len1-up.len_at_least

pub loop-left-preserved : goal.loop-left-preserved
loop-left-preserved g c =
    let o = g.H.Host.outside in
    let u : ℕ = g.P.PageBook.place c.args.book.now in
    let v : ℕ = g.P.PageBook.place c.loop-left.book in
    let done : List (List ℕ) = items_of c.loop-left.larges.items in
    let reads = c.loop-left.invariant.reads in
    let some = c.in-len1-up.len_at_least in
    let pushed : c.push.new.self.items ≡ c.loop-left.larges.items ++ c.in_ok-read_large.field-0 ∷ [] = search rules in
    record {
      reads = reads-on reads c.in_ok-read_large.ensures.reads.book;
      no_fault = NoFault-append c.loop-left.invariant.no_fault c.in_ok-read_large.ensures.reads.ends.no_fault;
      there = there-others c.args.objects.now c.loop-left.left.now c.loop-left.invariant.there some;
      spent = spent-next c.loop-left.invariant.spent _ some reads.same_place
          c.in_ok-read_large.ensures.pages;
      lengths =
          lengths-on (λ (bytes : Vec ℕ Global). length bytes.items) c.loop-left.larges.items c.push.new.self.items c.in_ok-read_large.field-0 c.loop-left.left.now _ (map_list (λ (row : LargeAt). row.length) c.args.rows.now) some
          c.in_ok-read_large.ensures.length pushed c.loop-left.invariant.lengths;
      larges = λ tells texts bs holds has.
          let went = c.loop-left.invariant.larges tells texts bs holds has in
          let still = holds-on texts u v (o c.args.host.now).now (o c.loop-left.host).now reads.same_place reads.looks.moment holds in
          let its = c.in_ok-read_large.ensures.bytes tells texts (head-of went.rest) still (next-there texts c.loop-left.left.now bs done u (o c.args.host.now) (o c.loop-left.host) went some _) in
          goes-on texts c.loop-left.left.now bs done u (o c.args.host.now) (o c.loop-left.host) went some (o c.read_large.new.host) c.in_ok-read_large.field-0.items (items_of c.push.new.self.items)
          its.bytes_are
          (ap items_of pushed ∙ map-append (λ (bytes : Vec ℕ Global). bytes.items) c.loop-left.larges.items (c.in_ok-read_large.field-0 ∷ []))
          (spends-at u v _ (o c.loop-left.host) (o c.read_large.new.host) reads.same_place its.costs);
    }

pub returns-in_err-read_large : goal.returns-in_err-read_large
returns-in_err-read_large g c =
    let o = g.H.Host.outside in
    let u : ℕ = g.P.PageBook.place c.args.book.now in
    let v : ℕ = g.P.PageBook.place c.loop-left.book in
    let done : List (List ℕ) = items_of c.loop-left.larges.items in
    let i = c.loop-left.invariant in
    let r = c.from_residual.result in
    record {
      lengths = no-value r c.in_err-read_large.field-0.0 _ c.from_residual.ensures.1;
      larges = λ tells texts bs holds has.
          let went = i.larges tells texts bs holds has in
          let some = c.in-len1-up.len_at_least in
          let still = holds-on texts u v (o c.args.host.now).now (o c.loop-left.host).now i.reads.same_place i.reads.looks.moment holds in
          let its = c.read_large.ensures.bytes tells texts (head-of went.rest) still (next-there texts c.loop-left.left.now bs done u (o c.args.host.now) (o c.loop-left.host) went some _) in
          record {
            larges = no-value r c.in_err-read_large.field-0.0 _ c.from_residual.ensures.1;
            costs = stops-on texts c.loop-left.left.now bs done u (o c.args.host.now) (o c.loop-left.host) went some (o c.read_large.new.host) (spends-at u v _ (o c.loop-left.host) (o c.read_large.new.host) i.reads.same_place its.costs);
          };
      pages = spent-most (spent-next i.spent _ c.in-len1-up.len_at_least i.reads.same_place
          c.read_large.ensures.pages);
      reads = record {
        book = reads-on i.reads c.read_large.ensures.reads.book;
        ends = read-after r i.reads.same_place i.reads.looks i.no_fault (read-fails r c.in_err-read_large.field-0.0 c.from_residual.ensures.1 c.in_err-read_large.ensures.reads.ends);
      };
    }

pub returns-in_err-push : goal.returns-in_err-push
returns-in_err-push g c =
    let o = g.H.Host.outside in
    let u : ℕ = g.P.PageBook.place c.args.book.now in
    let v : ℕ = g.P.PageBook.place c.loop-left.book in
    let done : List (List ℕ) = items_of c.loop-left.larges.items in
    let i = c.loop-left.invariant in
    let r = c.from_residual-in_err-push.result in
    record {
      lengths = no-value r _ _ c.from_residual-in_err-push.ensures.1;
      larges = λ tells texts bs holds has.
          let went = i.larges tells texts bs holds has in
          let some = c.in-len1-up.len_at_least in
          let still = holds-on texts u v (o c.args.host.now).now (o c.loop-left.host).now i.reads.same_place i.reads.looks.moment holds in
          let its = c.in_ok-read_large.ensures.bytes tells texts (head-of went.rest) still (next-there texts c.loop-left.left.now bs done u (o c.args.host.now) (o c.loop-left.host) went some _) in
          record {
            larges = no-value r _ _ c.from_residual-in_err-push.ensures.1;
            costs = stops-on texts c.loop-left.left.now bs done u (o c.args.host.now) (o c.loop-left.host) went some (o c.read_large.new.host) (spends-at u v _ (o c.loop-left.host) (o c.read_large.new.host) i.reads.same_place its.costs);
          };
      pages = spent-most (spent-next i.spent _ c.in-len1-up.len_at_least i.reads.same_place
          c.in_ok-read_large.ensures.pages);
      reads = record { book = reads-on i.reads c.in_ok-read_large.ensures.reads.book; ends = read-memory r (NoFault-append i.no_fault c.in_ok-read_large.ensures.reads.ends.no_fault) c.from_residual-in_err-push.ensures.1 };
    }

pub returns-clause-larges : goal.returns-clause-larges
returns-clause-larges g c = λ tells texts bs holds has.
    let o = g.H.Host.outside in
    let u : ℕ = g.P.PageBook.place c.args.book.now in
    let went = c.loop-left.invariant.larges tells texts bs holds has in
    record {
      larges = went-all texts c.loop-left.left.now bs (items_of c.loop-left.larges.items) u (o c.args.host.now) (o c.loop-left.host) went c.in_default.len_below;
      costs = went-some texts c.loop-left.left.now bs (items_of c.loop-left.larges.items) u (o c.args.host.now) (o c.loop-left.host) went;
    }

pub returns-clause-pages : goal.returns-clause-pages
returns-clause-pages g c = spent-most c.loop-left.invariant.spent

pub returns-clause-reads : goal.returns-clause-reads
returns-clause-reads g c = record { book = c.loop-left.invariant.reads; ends = record { cause = tt; no_fault = c.loop-left.invariant.no_fault } }
