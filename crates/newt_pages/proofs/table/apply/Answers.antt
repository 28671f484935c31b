use Rattle.std.proofs.Common.{◌≡◌, ℕ, ◌==◌, ◌<◌, ◌++◌, Bool, cond, List, length, map as map_list, Option, None, sym, ◌∙◌, ap, subst, arith}
use Rattle.std.specs.List.{All, list_any}
use Rattle.std.specs.FinMap as map
use Rattle.newt_spec_image.specs.Pages.{Pages, Put, with_puts, after}
use Rattle.newt_pagebook.proofs.Changes.{get_without}
use Rattle.newt_pagelog.specs.Kept.{page_in, map_of}
use Rattle.newt_pagelog.specs.Placed.{lifted}
use Rattle.newt_pagelog.proofs.Maps.{map_is}
use Rattle.newt_pages.specs.Disk.{StandAt}
use Rattle.newt_pages.proofs.Tables.{lifted-gone, placed-gone, small-puts, numbers-moved}
use Rattle.newt_pages.proofs.table.apply.Goals as goal

pub returns-clause-pages : goal.returns-clause-pages
returns-clause-pages c = λ page stand.
    let batch = c.args.batch.now in
    let old = c.args.places.now.entries in
    let mid = c.place_puts.new.places.entries in
    let new = c.remove_numbers.new.places.entries in
    let m : Pages = map_of (lifted page old) in
    let puts : c.puts.result.now ≡ batch.puts = c.puts.ensures.puts in
    let deletes : c.deletes.result.now ≡ batch.deletes = c.deletes.ensures.deletes in
    map_is (lifted page new) (after batch m) (λ q.
    let gone : Bool = list_any (λ n. q == n) batch.deletes in
    lifted-gone page (λ q. list_any (λ n. q == n) c.deletes.result.now) mid new c.remove_numbers.ensures.updates q
    ∙ ap (λ (l : List ℕ). cond (list_any (λ n. q == n) l) None (page_in (lifted page mid) q)) deletes
    ∙ ap (λ (o : Option (List ℕ)). cond gone None o) (c.place_puts.ensures.pages page (subst (λ (l : List Put). StandAt page c.args.first l) (sym puts) stand) q ∙ ap (λ (l : List Put). map.get (with_puts l m) q) puts)
    ∙ sym (get_without batch.deletes (with_puts batch.puts m) q))

pub returns-clause-numbers : goal.returns-clause-numbers
returns-clause-numbers c = numbers-moved c.args.places.now.entries c.remove_numbers.new.places.entries c.args.batch.now c.args.first (returns-clause-pages c)

pub returns-clause-placed : goal.returns-clause-placed
returns-clause-placed c = λ j placed low high.
    let puts = c.puts.ensures.puts in
    placed-gone j (λ q. list_any (λ n. q == n) c.deletes.result.now) c.place_puts.new.places.entries c.remove_numbers.new.places.entries c.remove_numbers.ensures.updates
    (c.place_puts.ensures.placed j placed (small-puts c.puts.result.now c.args.batch.now.deletes (subst (λ (l : List Put). All (λ n. n < 65536) (map_list (λ (put : Put). put.0) l ++ c.args.batch.now.deletes)) (sym puts) c.puts.ensures.sound.small)) low (omega (arith, high, ap (λ (l : List Put). length l) puts)))

pub place_puts-requires : goal.place_puts-requires
place_puts-requires c =
    let size = ap (λ (l : List Put). length l) c.puts.ensures.puts in
    record {
      takes = record {
        room = omega (arith, c.requires.takes.room, size);
        unique = c.requires.takes.unique;
        near = omega (arith, c.requires.takes.near, size);
      };
    }
