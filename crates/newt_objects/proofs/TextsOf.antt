-- Pages that have a table have a map of objects.
use Rattle.std.proofs.Common.{◌≡◌, ℕ, ◌≤◌, ◌==◌, Bool, true, false, cond, ◌||◌, List, [], ◌∷◌, length, map as map_list, get_or, Option, Some, None, refl, sym, ◌∙◌, ap, arith, ⊎_elim}
use Rattle.std.specs.List.{list_any}
use Rattle.std.specs.Ordering.{nat_cmp, eq_by_cmp}
use Rattle.std.specs.Cmp.{nat_cmp_total}
use Rattle.std.specs.FinMap as map
use Rattle.std.specs.Option.{option_map, unwrap_or, is_some}
use Rattle.std.proofs.lemmas.Bool.{or_right}
use Rattle.std.proofs.lemmas.Option.{slice_get-get_or}
use Rattle.newt_spec_image.specs.Pages.{Pages, object_id}
use Rattle.newt_spec_image.specs.Objects.{Extent, Table, IsTableOf, AreObjectsOf, pages_for, joined, Objects}
use Rattle.newt_pagebook.proofs.Tests.{true_or_false, the_some, is_same, equal_true, same_test}

abbrev page_of : Pages → ℕ → List ℕ
page_of live number = unwrap_or (map.get live number) []

abbrev owner : Pages → ℕ → ℕ
owner live number = object_id (page_of live number)

abbrev nowhere : Extent
nowhere = record { length = 0; numbers = [] }

abbrev text_at : Pages → Table → ℕ → List ℕ
text_at live table id = joined live (unwrap_or (table id) nowhere)

-- an entry for the object of each page
abbrev texts_in : Pages → Table → List ℕ → List (ℕ × List ℕ)
texts_in live table numbers = map_list (λ n. (owner live n, text_at live table (owner live n))) numbers

-- what stands at an id: the text, where a page is of this object
find_text : (live : Pages) (table : Table) (id : ℕ) (numbers : List ℕ) → map.find nat_cmp id (texts_in live table numbers) ≡ cond (list_any (λ n. id == owner live n) numbers) (Some (text_at live table id)) None
find_text live table id [] = refl
find_text live table id (n ∷ ns) =
    let at = owner live n in
    ap (λ (b : Bool). cond b (Some (text_at live table at)) (map.find nat_cmp id (texts_in live table ns))) (same_test id at)
    ∙ ap (cond (id == at) (Some (text_at live table at))) (find_text live table id ns)
    ∙ joins (id == at) (list_any (λ n. id == owner live n) ns) (λ t. ap (text_at live table) (sym (is_same id at t))) where
      joins : (a b : Bool) → (a ≡ true → text_at live table (owner live n) ≡ text_at live table id)
          → cond a (Some (text_at live table (owner live n))) (cond b (Some (text_at live table id)) None) ≡ cond (a || b) (Some (text_at live table id)) None
      joins true b same = ap Some (same refl)
      joins false b same = refl

-- a number among others, whose page is of an object
some_owned : (live : Pages) (id number : ℕ) (numbers : List ℕ) → list_any (eq_by_cmp nat_cmp number) numbers ≡ true → owner live number ≡ id → list_any (λ n. id == owner live n) numbers ≡ true
some_owned live id number [] among own = absurd (cc)
some_owned live id number (n ∷ ns) among own = ⊎_elim
    (λ (t : (number == n) ≡ true). ap (λ (b : Bool). b || list_any (λ n. id == owner live n) ns) (equal_true id (owner live n) (sym own ∙ ap (owner live) (is_same number n t))))
    (λ (f : (number == n) ≡ false).
    let rest : list_any (eq_by_cmp nat_cmp number) ns ≡ true = sym (ap (λ (b : Bool). b || list_any (eq_by_cmp nat_cmp number) ns) (same_test number n ∙ f)) ∙ among in
    ap (λ (b : Bool). (id == owner live n) || b) (some_owned live id number ns rest own) ∙ or_right (id == owner live n) true refl)
    (true_or_false (number == n))

the_owned : (live : Pages) (id : ℕ) (numbers : List ℕ) → list_any (λ n. id == owner live n) numbers ≡ true → (number : ℕ) × (list_any (eq_by_cmp nat_cmp number) numbers ≡ true) × (owner live number ≡ id)
the_owned live id [] any = absurd (cc)
the_owned live id (n ∷ ns) any = ⊎_elim
    (λ (t : (id == owner live n) ≡ true). (n, ap (λ (b : Bool). b || list_any (eq_by_cmp nat_cmp n) ns) (same_test n n ∙ equal_true n n refl), sym (is_same id (owner live n) t)))
    (λ (f : (id == owner live n) ≡ false).
    let w = the_owned live id ns (sym (ap (λ (b : Bool). b || list_any (λ n. id == owner live n) ns) f) ∙ any) in
    (w.0, ap (λ (b : Bool). eq_by_cmp nat_cmp w.0 n || b) w.1 ∙ or_right (eq_by_cmp nat_cmp w.0 n) true refl, w.2))
    (true_or_false (id == owner live n))

module _ (live : Pages) (table : Table) (is : IsTableOf live table) where
  -- an object has a page
  has_page : (id : ℕ) (x : Extent) → table id ≡ Some x → list_any (λ n. id == owner live n) (map.keys live) ≡ true
  has_page id x there =
      let low : 1 ≤ length x.numbers = omega (arith, is.whole id x there, one_page x.length) in
      let number : ℕ = get_or x.numbers 0 0 in
      let p = is.parts id 0 number x there (slice_get-get_or x.numbers 0 0 low) in
      let key : list_any (eq_by_cmp nat_cmp number) (map.keys live) ≡ true = sym (map.contains_key-keys live number) ∙ ap is_some p.1 in
      some_owned live id number (map.keys live) key (ap (λ (o : Option (List ℕ)). object_id (unwrap_or o [])) p.1 ∙ p.2.of_object) where
        one_page : (n : ℕ) → 1 ≤ pages_for n
        one_page n = omega arith

  -- a page is of an object
  has_object : (id : ℕ) → list_any (λ n. id == owner live n) (map.keys live) ≡ true → (x : Extent) × (table id ≡ Some x)
  has_object id any =
      let w = the_owned live id (map.keys live) any in
      let p = the_some (map.get live w.0) (map.contains_key-keys live w.0 ∙ w.1) in
      let o = is.pages w.0 p.0 p.1 in
      let own : object_id p.0 ≡ id = sym (ap (λ (o : Option (List ℕ)). object_id (unwrap_or o [])) p.1) ∙ w.2 in
      (o.0, ap table (sym own) ∙ o.1)

  abbrev all_texts : Objects
  all_texts = map.from_entries (texts_in live table (map.keys live))

  each_text : (id : ℕ) → map.get all_texts id ≡ option_map (joined live) (table id)
  each_text id = map.get-from_entries nat_cmp_total (texts_in live table (map.keys live)) id ∙ find_text live table id (map.keys live) ∙ ⊎_elim
      (λ (t : list_any (λ n. id == owner live n) (map.keys live) ≡ true).
      let o = has_object id t in
      ap (λ (b : Bool). cond b (Some (text_at live table id)) None) t
      ∙ ap (λ (o : Option Extent). Some (joined live (unwrap_or o nowhere))) o.1 ∙ sym (ap (option_map (joined live)) o.1))
      (λ (f : list_any (λ n. id == owner live n) (map.keys live) ≡ false).
      ap (λ (b : Bool). cond b (Some (text_at live table id)) None) f ∙ sym (ap (option_map (joined live)) (no_object id f)))
      (true_or_false (list_any (λ n. id == owner live n) (map.keys live))) where
        no_object : (id : ℕ) → list_any (λ n. id == owner live n) (map.keys live) ≡ false → table id ≡ None
        no_object id f = cases (table id) refl where
          cases : (o : Option Extent) → table id ≡ o → table id ≡ None
          cases None e = e
          cases (Some x) e = absurd (let t = has_page id x e in cc)

  -- the objects of pages that have a table
  pub texts_of : (texts : Objects) × AreObjectsOf live texts
  texts_of = (all_texts, record { table = table; is_table = is; each = each_text })
