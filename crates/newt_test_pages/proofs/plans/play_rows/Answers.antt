use Rattle.newt_test_pages.proofs.plans.play_rows.Goals as goal

pub loop-row-init : goal.loop-row-init
loop-row-init g c = record { book = c.requires.book; objects = c.requires.objects }

pub play_row-requires-clause-book : goal.play_row-requires-clause-book
play_row-requires-clause-book g c = c.loop-row.invariant.book

pub play_row-requires-clause-objects : goal.play_row-requires-clause-objects
play_row-requires-clause-objects g c = c.loop-row.invariant.objects

pub loop-row-preserved : goal.loop-row-preserved
loop-row-preserved g c = record { book = c.in_ok-play_row.ensures.book; objects = c.in_ok-play_row.ensures.objects }
