use Rattle.std.proofs.Common.{get_or, sym, ◌∙◌, ap, arith}
use Rattle.newt_pagelog.specs.Kept.{map_of, get_map}
use Rattle.newt_pagelog.specs.Placed.{lifted}
use Rattle.newt_pagelog.proofs.Maps.{no_put}
use Rattle.newt_pagelog.proofs.Placing.{placed-put}
use Rattle.newt_pages.proofs.Tables.{place-step, small-at}
use Rattle.newt_pages.proofs.table.place_puts.Goals as goal

pub loop-put-init : goal.loop-put-init
loop-put-init c = record {
  at = omega arith;
  spare = omega (arith, c.requires.takes.room);
  len = omega arith;
  unique = c.requires.takes.unique;
  pages = λ page stand q. sym (get_map (lifted page c.args.places.now.entries) q);
  placed = λ j placed small low high. placed;
}

pub loop-put-preserved : goal.loop-put-preserved
loop-put-preserved c =
    let i = c.loop-put.put-index in
    let inv = c.loop-put.invariant in
    let e = c.place_page.ensures in
    let puts = c.args.puts.now in
    record {
      at = omega (arith, inv.at);
      spare = omega (arith, inv.spare, e.spare);
      len = omega (arith, inv.len, e.len);
      unique = e.unique;
      pages = λ page stand. place-step page (map_of (lifted page c.args.places.now.entries)) puts i c.loop-put.at c.loop-put.places.entries c.place_page.new.places.entries c.loop-put-test.true
          (ap page inv.at ∙ stand i c.loop-put-test.true) (inv.pages page stand) e.updates;
      placed = λ j placed small low high. placed-put j c.loop-put.places.entries c.place_page.new.places.entries (get_or puts i no_put).0 c.loop-put.at (inv.placed j placed small low high)
          (record { small = small-at puts i small c.loop-put-test.true; low = omega (arith, inv.at, low); high = omega (arith, inv.at, high, c.loop-put-test.true) }) e.updates;
    }
