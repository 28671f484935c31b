-- The pages of an object's parts, and the bytes that they join to.
use Rattle.std.proofs.Common.{◌≡◌, ℕ, zero, suc, ◌+◌, ◌-◌, ◌*◌, ◌<◌, ◌≤◌, Bool, true, List, [], ◌∷◌, ◌++◌, length, drop, get_or, slice_get, Option, Some, None, IfSome, refl, sym, ◌∙◌, ap, subst, arith, length-drop, length-take, length-append}
use Rattle.std.specs.FinSet as set
use Rattle.std.specs.List.{flat_map}
use Rattle.std.specs.Option.{option_and_then, unwrap_or, is_some}
use Rattle.std.proofs.lemmas.Option.{slice_get-get_or}
use Rattle.newt_host.specs.Outside.{Outside, Spends}
use Rattle.newt_host.proofs.Outside.{Spends-append, Spends-widen}
use Rattle.newt_spec_image.specs.Pages.{Pages, Change, after, page_data}
use Rattle.newt_spec_image.specs.Objects.{Extent, Table, IsTableOf, pages_for, joined, data_at}
use Rattle.newt_pagebook.specs.Book.{Numbers}
use Rattle.newt_pagebook.proofs.Changes.{unnamed}
use Rattle.newt_objects.specs.Extents.{IsUnnamed}
use Rattle.newt_objects.specs.Held.{Held, held, page_at, AreOf}
use Rattle.newt_objects.specs.Changing.{AreWhole}
use Rattle.newt_vbo.specs.declared.range.Piece.{Piece}
use Rattle.newt_host.specs.Moments.{bytes_from}
use Rattle.newt_vbo.specs.Ranges.{before_part, IsPiece}
use Rattle.newt_vbo.proofs.Lists.{range_cut, range_more, range_in_part}

-- each part of an object has a number
pub part_at : (objects : Held) (id part : ℕ) (x : Extent) → held objects id ≡ Some x → length x.numbers ≡ pages_for x.length → part < pages_for x.length
    → (page_at objects id part ≡ Some (get_or x.numbers part 0)) × (slice_get x.numbers part ≡ Some (get_or x.numbers part 0))
part_at objects id part x there whole low =
    let at : slice_get x.numbers part ≡ Some (get_or x.numbers part 0) = slice_get-get_or x.numbers part 0 (omega (arith, whole, low)) in
    (ap (option_and_then (λ (x : Extent). slice_get x.numbers part)) there ∙ at, at)

-- which is the number of a live page
pub part_live : (told : Bool) (objects : Held) (numbers : Numbers) (unit : ℕ) (outside : Outside) (id part number : ℕ) (x : Extent) → AreOf told (held objects) numbers unit outside → held objects id ≡ Some x
    → slice_get x.numbers part ≡ Some number → set.contains numbers number ≡ true
part_live told objects numbers unit outside id part number x are there at =
    let p = are.is_table.parts id part number x there at in
    sym (are.are.named number) ∙ ap is_some p.1

-- each page of an object has 500 bytes after its header
abbrev pub HasWhole : Pages → Extent → Type 0
HasWhole live x = (k number : ℕ) → slice_get x.numbers k ≡ Some number → length (data_at live number) ≡ 500

pub data_whole : (live : Pages) (table : Table) (id : ℕ) (x : Extent) → AreWhole live → IsTableOf live table → table id ≡ Some x → HasWhole live x
data_whole live table id x whole is there = λ k number at.
    let p = is.parts id k number x there at in
    let part : data_at live number ≡ drop 12 p.0 = ap (λ (o : Option (List ℕ)). drop 12 (unwrap_or o [])) p.1 in
    omega (arith, ap (λ (l : List ℕ). length l) part, length-drop 12 p.0, whole number p.0 p.1)

-- those that a change does not name stay
pub unnamed_whole : (change : Change) (live : Pages) (x : Extent) → IsUnnamed x change → HasWhole live x → HasWhole (after change live) x
unnamed_whole change live x free whole = λ k number at. ap (λ (o : Option (List ℕ)). length (page_data (unwrap_or o []))) (unnamed change live number (free k number at)) ∙ whole k number at

flat_size : (d : ℕ → List ℕ) (ns : List ℕ) → ((k n : ℕ) → slice_get ns k ≡ Some n → length (d n) ≡ 500) → length (flat_map d ns) ≡ 500 * length ns
flat_size d [] each = refl
flat_size d (n ∷ ns) each = omega (arith, each zero n refl, flat_size d ns (λ k m e. each (suc k) m e), length-append (d n) (flat_map d ns))

-- all parts of an object together are no shorter than it
pub joined_long : (live : Pages) (x : Extent) → HasWhole live x → length x.numbers ≡ pages_for x.length → x.length ≤ length (flat_map (data_at live) x.numbers)
joined_long live x whole count = omega (arith, flat_size (data_at live) x.numbers whole, count)

pub joined_length : (live : Pages) (x : Extent) → HasWhole live x → length x.numbers ≡ pages_for x.length → length (joined live x) ≡ x.length
joined_length live x whole count = omega (arith, joined_long live x whole count, length-take x.length (flat_map (data_at live) x.numbers))

-- the bytes of an object that lie in one part
pub joined_range : (live : Pages) (x : Extent) → HasWhole live x → (k number s c : ℕ) → slice_get x.numbers k ≡ Some number → s + c ≤ 500 → 500 * k + s + c ≤ x.length
    → bytes_from (500 * k + s) c (joined live x) ≡ bytes_from s c (data_at live number)
joined_range live x whole k number s c at inside within =
    range_cut (500 * k + s) c x.length (flat_map (data_at live) x.numbers) within
    ∙ range_in_part (data_at live) x.numbers k s c number whole at inside

-- one piece more of what is read
pub range_step : (live : Pages) (x : Extent) → HasWhole live x → (part number at end : ℕ) (piece : Piece) → IsPiece part at end piece → slice_get x.numbers part ≡ Some number → at ≤ end → end ≤ x.length
    → (old new : List ℕ) → old ≡ bytes_from at (before_part part at end) (joined live x) → new ≡ old ++ bytes_from piece.from piece.count (data_at live number)
    → new ≡ bytes_from at (before_part (part + 1) at end) (joined live x)
range_step live x whole part number at end piece is slot forward fits old new so_far more =
    let text : List ℕ = joined live x in
    let within : 500 * part + piece.from + piece.count ≤ x.length = omega (arith, is.place, is.last, forward, fits) in
    more
    ∙ ap (λ (l : List ℕ). l ++ bytes_from piece.from piece.count (data_at live number)) (so_far ∙ ap (λ (n : ℕ). bytes_from at n text) (sym is.first))
    ∙ ap (λ (l : List ℕ). bytes_from at piece.start text ++ l) (sym (joined_range live x whole part number piece.from piece.count slot is.inside within) ∙ ap (λ (k : ℕ). bytes_from k piece.count text) (sym is.place))
    ∙ sym (range_more at piece.start piece.count text) ∙ ap (λ (n : ℕ). bytes_from at n text) is.last

-- what is loaded for one part more
pub spends_more : (unit first part : ℕ) (a b c : Outside) → first ≤ part → Spends unit 0 (512 * (part - first)) a b → Spends unit 0 512 b c → Spends unit 0 (512 * (part + 1 - first)) a c
spends_more unit first part a b c low s t = Spends-widen (0 + 0) (512 * (part - first) + 512) 0 (512 * (part + 1 - first)) (omega arith) (omega (arith, low)) (Spends-append 0 (512 * (part - first)) 0 512 s t)

-- what holds of the object that is there
pub for_some : (o : Option Extent) (P : Extent → Type 0) → ((x : Extent) → o ≡ Some x → P x) → IfSome o P
for_some None P each = tt
for_some (Some x) P each = each x refl

pub of_some : (o : Option Extent) (P : Extent → Type 0) (x : Extent) → o ≡ Some x → IfSome o P → P x
of_some o P x there all = subst (λ (o : Option Extent). IfSome o P) there all
