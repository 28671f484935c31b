use Rattle.std.proofs.Common.{List, sym, ap, subst}
use Rattle.newt_host.specs.Moments.{Change, Wrote, Synced, bytes_after, LeftBy}
use Rattle.newt_host.proofs.Moments.{changes-same, changes-other}
use Rattle.newt_host.proofs.Printing.{changes-printed, output-printed}
use Rattle.newt_host.proofs.laws.events_mean.Goals as goal

pub returns-clause-wrote : goal.returns-clause-wrote
returns-clause-wrote c unit at reads old = ap bytes_after (changes-same unit (Wrote at reads) old)

pub returns-clause-torn : goal.returns-clause-torn
returns-clause-torn c unit at reads bytes old =
    let same = changes-same unit (Wrote at reads) old in
    (λ may. subst (λ (done : List Change). LeftBy done bytes) same may, λ torn. subst (λ (done : List Change). LeftBy done bytes) (sym same) torn)

pub returns-clause-synced : goal.returns-clause-synced
returns-clause-synced c unit old = ap bytes_after (changes-same unit Synced old)

pub returns-clause-sure : goal.returns-clause-sure
returns-clause-sure c unit bytes old =
    let same = changes-same unit Synced old in
    (λ may. subst (λ (done : List Change). LeftBy done bytes) same may, λ is. subst (λ (done : List Change). LeftBy done bytes) (sym same) is)

pub returns-clause-elsewhere : goal.returns-clause-elsewhere
returns-clause-elsewhere c unit u change old differ = changes-other u unit change old differ

pub returns-clause-printed_elsewhere : goal.returns-clause-printed_elsewhere
returns-clause-printed_elsewhere c unit bytes old = changes-printed unit bytes old

pub returns-clause-prints : goal.returns-clause-prints
returns-clause-prints c bytes old = output-printed bytes old
