-- The input and the output.
use Rattle.std.proofs.Common.{◌≡◌, ℕ, ◌+◌, ◌-◌, ◌≤◌, List, ◌∷◌, ◌++◌, length, take, drop, slice_get, sym, ◌∙◌, ap, subst, arith}
use Rattle.std.proofs.lemmas.List.{take-append-drop, take_at, drop-drop, length-take, length-take-le, length-drop}
use Rattle.newt_host.specs.Moments.{Change, Moment, Took, changes, output}
use Rattle.newt_host.specs.Outside.{printed}
use Rattle.newt_host.proofs.Printing.{changes-printed, output-printed}
use Rattle.newt_memhost.specs.Cards.{IsTold, Stands}
use Rattle.newt_memhost.specs.declared.card.Card.{Card}

-- a piece of the input was copied to the front of a buffer
pub took_front : (n taken : ℕ) (input buffer copied : List ℕ) → taken ≤ length input → n ≤ length input - taken → copied ≡ take n (drop taken input)
    → drop taken input ≡ take n (copied ++ drop n buffer) ++ drop (taken + n) input
took_front n taken input buffer copied inside fits is =
    let rest = length-drop taken input in
    let l : n ≤ length (drop taken input) = omega arith in
    let size : length copied ≡ n = ap length is ∙ length-take-le n (drop taken input) l in
    sym (take-append-drop n (drop taken input))
    ∙ (ap (λ (t : List ℕ). t ++ drop n (drop taken input)) (sym is ∙ sym (take_at copied (drop n buffer) n size))
    ∙ ap (λ (t : List ℕ). take n (copied ++ drop n buffer) ++ t) (drop-drop n taken input))

-- the front of the buffer is that piece
pub took_piece : (n : ℕ) (piece buffer copied : List ℕ) → copied ≡ piece → length copied ≡ n → piece ≡ take n (copied ++ drop n buffer)
took_piece n piece buffer copied is size = sym (take_at copied (drop n buffer) n size ∙ is)

-- a part is no longer than what bounds it
pub short : (n most : ℕ) (bytes : List ℕ) → n ≤ most → length (take n bytes) ≤ most
short n most bytes low = omega (arith, length-take n bytes, low)

-- what is taken from the input is nothing for a unit, nor for the output
pub told-took : (cards : List Card) (piece : List ℕ) (old now : Moment) → IsTold cards old → now ≡ Took piece ∷ old → IsTold cards now
told-took cards piece old now told is = subst (λ (m : Moment). IsTold cards m) (sym is) (record { each = told.each })

pub out-took : (piece before : List ℕ) (old now : Moment) → output old ≡ before → now ≡ Took piece ∷ old → output now ≡ before
out-took piece before old now out is = ap output is ∙ out

-- what is printed is nothing for a unit
pub told-printed : (cards : List Card) (bytes : List ℕ) (old now : Moment) → IsTold cards old → now ≡ printed bytes old → IsTold cards now
told-printed cards bytes old now told is = record {
  each = λ u. subst (λ (done : List Change). Stands (slice_get cards u) done) (sym (ap (λ (m : Moment). changes u m) is ∙ changes-printed u bytes old)) (told.each u);
}

pub out-printed : (bytes before : List ℕ) (old now : Moment) → output old ≡ before → now ≡ printed bytes old → output now ≡ before ++ bytes
out-printed bytes before old now out is = ap output is ∙ output-printed bytes old ∙ ap (λ (l : List ℕ). l ++ bytes) out

-- a call that printed nothing
pub told-same : (cards : List Card) (old now : Moment) → IsTold cards old → now ≡ old → IsTold cards now
told-same cards old now told is = subst (λ (m : Moment). IsTold cards m) (sym is) told

pub out-same : (before after : List ℕ) (old now : Moment) → output old ≡ before → now ≡ old → after ≡ before → output now ≡ after
out-same before after old now out is same = ap output is ∙ out ∙ sym same
