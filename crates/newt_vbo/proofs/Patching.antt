-- One page of an object is put again, with bytes of its part replaced.
use Rattle.std.proofs.Common.{◌≡◌, ℕ, ◌+◌, ◌*◌, ◌≤◌, Bool, false, cond, List, [], ◌++◌, length, take, drop, get_or, slice_get, Option, Some, None, refl, sym, ◌∙◌, ap, subst, arith, ⊎_elim, length-take, length-drop, take-append-drop}
use Rattle.std.specs.Int.{from_be_bytes, w32}
use Rattle.std.specs.List.{flat_map}
use Rattle.std.specs.FinMap as map
use Rattle.std.specs.Option.{option_map, unwrap_or}
use Rattle.std.proofs.lemmas.Bool.{cases_eq}
use Rattle.std.proofs.lemmas.List.{drop_at, take-append-le, drop-append-le}
use Rattle.std.proofs.lemmas.Option.{slice_get-get_or}
use Rattle.newt_host.specs.Moments.{overwritten}
use Rattle.newt_spec_image.specs.Pages.{Pages, Change, after, object_id, part_number, object_length, page_data, word_at}
use Rattle.newt_spec_image.specs.Objects.{Extent, IsPart, IsTableOf, pages_for, joined, data_at, Objects}
use Rattle.newt_pagebook.specs.Batch.{names, puts_one}
use Rattle.newt_pagebook.proofs.Tests.{some_inj, equal_true, equal_false}
use Rattle.newt_pagebook.proofs.Changes.{after_put, unnamed, get_insert}
use Rattle.newt_objects.specs.Extents.{IsUnnamed}
use Rattle.newt_objects.specs.Held.{Held, held, planned, WouldHold}
use Rattle.newt_objects.proofs.Plans.{one_part, joined-same}
use Rattle.newt_objects.proofs.Same.{one_page, same_list}
use Rattle.newt_host.proofs.Ranges.{length-overwritten}
use Rattle.newt_vbo.proofs.Lists.{overwritten_right, overwritten_part, overwritten_cut}
use Rattle.newt_vbo.proofs.Parts.{HasWhole, joined_long}

-- The page keeps its header.
module _ (page new : List ℕ) (s : ℕ) (size : length page ≡ 512) where
  abbrev now : List ℕ
  now = overwritten page (12 + s) new

  head_size : length (take 12 page) ≡ 12
  head_size = omega (arith, size, length-take 12 page)

  pub patched_is : now ≡ take 12 page ++ overwritten (drop 12 page) s new
  patched_is = ap (λ (l : List ℕ). overwritten l (12 + s) new) (sym (take-append-drop 12 page)) ∙ overwritten_right (take 12 page) (drop 12 page) s (12 + s) new (omega (arith, head_size))

  pub patched_data : page_data now ≡ overwritten (page_data page) s new
  patched_data = ap page_data patched_is ∙ drop_at (take 12 page) (overwritten (drop 12 page) s new) 12 head_size

  word_first : (at : ℕ) (rest : List ℕ) → at + 4 ≤ 12 → word_at at (take 12 page ++ rest) ≡ word_at at (take 12 page)
  word_first at rest low =
      ap (λ (l : List ℕ). from_be_bytes w32 (take 4 l)) (drop-append-le at (take 12 page) rest (omega (arith, low, head_size)))
      ∙ ap (from_be_bytes w32) (take-append-le 4 (drop at (take 12 page)) rest (omega (arith, low, head_size, length-drop at (take 12 page))))

  word_kept : (at : ℕ) → at + 4 ≤ 12 → word_at at now ≡ word_at at page
  word_kept at low =
      ap (word_at at) patched_is ∙ word_first at (overwritten (drop 12 page) s new) low
      ∙ sym (word_first at (drop 12 page) low) ∙ ap (word_at at) (take-append-drop 12 page)

  pub patched_object : object_id now ≡ object_id page
  patched_object = word_kept 0 (omega arith)

  pub patched_part : part_number now ≡ part_number page
  patched_part = word_kept 4 (omega arith)

  pub patched_length : object_length now ≡ object_length page
  patched_length = word_kept 8 (omega arith)

  pub patched_is_part : (id part total : ℕ) → IsPart id part total page → IsPart id part total now
  patched_is_part id part total is = record {
    of_object = patched_object ∙ is.of_object;
    of_part = patched_part ∙ is.of_part;
    of_size = patched_length ∙ is.of_size;
  }

-- An object of which no page is named is still there once the change is committed.
module _ (objects : Held) (change : Change) (live : Pages) (texts : Objects) (id : ℕ) (x : Extent) (is : IsTableOf live (held objects)) (would : WouldHold objects change live texts)
    (there : held objects id ≡ Some x) (free : IsUnnamed x change) where
  part_still : (k number : ℕ) → slice_get x.numbers k ≡ Some number → (y : Extent) × (planned objects id ≡ Some y) × (slice_get y.numbers k ≡ Some number) × (y.length ≡ x.length)
  part_still k number at =
      let p = is.parts id k number x there at in
      let kept : map.get (after change live) number ≡ Some p.0 = unnamed change live number (free k number at) ∙ p.1 in
      let w = would.is_table.pages number p.0 kept in
      let q = would.is_table.parts (object_id p.0) (part_number p.0) number w.0 w.1 w.2 in
      let same : q.0 ≡ p.0 = some_inj _ _ (sym q.1 ∙ kept) in
      (w.0, ap (planned objects) (sym p.2.of_object) ∙ w.1, ap (slice_get w.0.numbers) (sym p.2.of_part) ∙ w.2, sym q.2.of_size ∙ ap object_length same ∙ p.2.of_size)

  pub still_planned : planned objects id ≡ Some x
  still_planned =
      let low : 1 ≤ length x.numbers = omega (arith, is.whole id x there, one_page x.length) in
      let first = part_still 0 (get_or x.numbers 0 0) (slice_get-get_or x.numbers 0 0 low) in
      let y : Extent = first.0 in
      let each : (k n : ℕ) → slice_get x.numbers k ≡ Some n → slice_get y.numbers k ≡ Some n = λ k n at.
      let p = part_still k n at in ap (λ (z : Extent). slice_get z.numbers k) (some_inj y p.0 (sym first.1 ∙ p.1)) ∙ p.2 in
      let size : length x.numbers ≡ length y.numbers = is.whole id x there ∙ ap pages_for (sym first.3) ∙ sym (would.is_table.whole id y first.1) in
      let numbers : x.numbers ≡ y.numbers = same_list x.numbers y.numbers size each in
      first.1 ∙ sym (λ i. Some (record { length = sym first.3 i; numbers = numbers i }))

-- One page is put.
module _ (change : Change) (live : Pages) (number s : ℕ) (page new : List ℕ) (free : names change number ≡ false) (got : map.get live number ≡ Some page) (size : length page ≡ 512)
    (inside : s + length new ≤ 500) where
  abbrev m : Pages
  m = after change live

  abbrev put : List ℕ
  put = overwritten page (12 + s) new

  abbrev m' : Pages
  m' = after (puts_one change number put) live

  was : map.get m number ≡ Some page
  was = unnamed change live number free ∙ got

  here : (q : ℕ) → q ≡ number → map.get m' q ≡ Some put
  here q same = after_put change live number put q free ∙ ap (λ (b : Bool). cond b (Some put) (map.get m q)) (equal_true q number same)

  other : (q : ℕ) → (q ≡ number → ⊥) → map.get m' q ≡ map.get m q
  other q ne = after_put change live number put q free ∙ ap (λ (b : Bool). cond b (Some put) (map.get m q)) (equal_false q number ne)

  data_other : (q : ℕ) → (q ≡ number → ⊥) → data_at m' q ≡ data_at m q
  data_other q ne = ap (λ (o : Option (List ℕ)). page_data (unwrap_or o [])) (other q ne)

  data_here : data_at m' number ≡ overwritten (data_at m number) s new
  data_here =
      ap (λ (o : Option (List ℕ)). page_data (unwrap_or o [])) (here number refl) ∙ patched_data page new s size
      ∙ ap (λ (o : Option (List ℕ)). overwritten (page_data (unwrap_or o [])) s new) (sym was)

  -- it has as many bytes as before
  pub put_whole : (x : Extent) → HasWhole m x → HasWhole m' x
  put_whole x whole = λ k n at. ⊎_elim
      (λ (same : n ≡ number).
      let old : length (data_at m number) ≡ 500 = ap (λ (q : ℕ). length (data_at m q)) (sym same) ∙ whole k n at in
      ap (λ (q : ℕ). length (data_at m' q)) same ∙ ap (λ (l : List ℕ). length l) data_here ∙ length-overwritten (data_at m number) s new (omega (arith, old, inside)) ∙ old)
      (λ (ne : n ≡ number → ⊥). ap (λ (l : List ℕ). length l) (data_other n ne) ∙ whole k n at)
      (cases_eq n number)

  module _ (objects : Held) (texts : Objects) (id k : ℕ) (x : Extent) (text : List ℕ) (would : WouldHold objects change live texts) (there : planned objects id ≡ Some x)
      (at : slice_get x.numbers k ≡ Some number) (whole : HasWhole m x) (within : 500 * k + s + length new ≤ x.length) (text_is : map.get texts id ≡ Some text) where
    put_table : IsTableOf m' (planned objects)
    put_table = record {
      whole = would.is_table.whole;
      parts = λ i j n y e f.
          let p = would.is_table.parts i j n y e f in
          ⊎_elim
          (λ (same : n ≡ number).
          let is : p.0 ≡ page = some_inj _ _ (sym p.1 ∙ ap (map.get m) same ∙ was) in
          (put, here n same, patched_is_part page new s size i j y.length (subst (λ (l : List ℕ). IsPart i j y.length l) is p.2)))
          (λ (ne : n ≡ number → ⊥). (p.0, other n ne ∙ p.1, p.2))
          (cases_eq n number);
      pages = λ n q e. ⊎_elim
          (λ (same : n ≡ number).
          let is : put ≡ q = some_inj _ _ (sym (here n same) ∙ e) in
          let w = would.is_table.pages number page was in (
            w.0,
            ap (planned objects) (ap object_id (sym is) ∙ patched_object page new s size) ∙ w.1,
            ap (slice_get w.0.numbers) (ap part_number (sym is) ∙ patched_part page new s size) ∙ w.2 ∙ ap Some (sym same),
          ))
          (λ (ne : n ≡ number → ⊥). would.is_table.pages n q (sym (other n ne) ∙ e))
          (cases_eq n number);
    }

    -- the object's text
    text_was : text ≡ joined m x
    text_was = some_inj _ _ (sym text_is ∙ would.each id ∙ ap (option_map (joined m)) there)

    text_now : joined m' x ≡ overwritten text (500 * k + s) new
    text_now =
        ap (λ (l : List ℕ). take x.length l) (overwritten_part (data_at m) (data_at m') x.numbers k s number new whole at inside data_here
        (λ j n e ne. data_other n (λ same. ne (one_part m (planned objects) would.is_table id id j k number x x there there (e ∙ ap Some same) at).1)))
        ∙ overwritten_cut (flat_map (data_at m) x.numbers) x.length (500 * k + s) new within (joined_long m x whole (would.is_table.whole id x there))
        ∙ ap (λ (l : List ℕ). overwritten l (500 * k + s) new) (sym text_was)

    -- another's
    text_kept : (q : ℕ) (y : Extent) → (q ≡ id → ⊥) → planned objects q ≡ Some y → joined m y ≡ joined m' y
    text_kept q y ne e = joined-same m m' y (λ j n f. sym (data_other n (λ same. ne (one_part m (planned objects) would.is_table q id j k number y x e there (f ∙ ap Some same) at).0)))

    kept_texts : (q : ℕ) → (q ≡ id → ⊥) → (o : Option Extent) → planned objects q ≡ o → option_map (joined m) o ≡ option_map (joined m') o
    kept_texts q ne None e = refl
    kept_texts q ne (Some y) e = ap Some (text_kept q y ne e)

    pub put_holds : WouldHold objects (puts_one change number put) live (map.insert texts id (overwritten text (500 * k + s) new))
    put_holds = record {
      is_table = put_table;
      each = λ q.
          let patched : List ℕ = overwritten text (500 * k + s) new in
          get_insert texts id patched q ∙ ⊎_elim
          (λ (same : q ≡ id).
          ap (λ (b : Bool). cond b (Some patched) (map.get texts q)) (equal_true q id same) ∙ ap Some (sym text_now)
          ∙ ap (option_map (joined m')) (sym there) ∙ ap (λ (i : ℕ). option_map (joined m') (planned objects i)) (sym same))
          (λ (ne : q ≡ id → ⊥). ap (λ (b : Bool). cond b (Some patched) (map.get texts q)) (equal_false q id ne) ∙ would.each q ∙ kept_texts q ne (planned objects q) refl)
          (cases_eq q id);
    }
