use Rattle.std.specs.Option.{option_copied}
use Rattle.newt_objects.proofs.Live.{moved-live, moved-set}
use Rattle.newt_objects.proofs.taken.exchange.Goals as goal

pub returns : goal.returns
returns c = λ yes_taken table more id was next same taken.
    let old = c.args.taken.now in
    let between = c.give_row.new.taken in
    let new = c.take_row.new.flags.items in
    let sound = c.give_row.ensures.full taken.full in
    let still = moved-set table more id old.flags.items between.flags.items new (option_copied c.args.was) c.args.next.now c.give_row.ensures.live (c.take_row.ensures yes_taken) was next same taken.live in
    record {
      live = moved-live table more id old.flags.items between.flags.items new (option_copied c.args.was) c.args.next.now c.give_row.ensures.live (c.take_row.ensures yes_taken) was next same taken.live;
      full = record {
        below = λ group under number is. still number (sound.below group under number is);
        marked = λ group yes number is. still number (sound.marked group yes number is);
      };
    }
