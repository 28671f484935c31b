use Rattle.std.proofs.Common.{List, ℕ, sym, ◌∙◌, ap}
use Rattle.std.specs.Str.{bytes_eq}
use Rattle.newt_memhost.proofs.Devices.{place-found}
use Rattle.newt_memhost.specs.declared.card.Device.{Device}
use Rattle.newt_memhost.proofs.shelf.find.Goals as goal

pub returns-then-eq : goal.returns-then-eq
returns-then-eq c =
    place-found c.args.name.now c.args.shelf.now c.loop-place.place c.index-shelf-place.result c.loop-place-test.true c.loop-place.invariant
    (ap (λ (d : Device). bytes_eq d.name.items c.args.name.now) (sym c.index-shelf-place.is) ∙ ap (λ (l : List ℕ). bytes_eq l c.args.name.now) (sym c.as_slice.ensures.value) ∙ sym c.eq.ensures ∙ c.if-eq.true)
