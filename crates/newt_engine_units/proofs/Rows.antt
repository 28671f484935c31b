-- The soups of a store, in order.
use Rattle.std.proofs.Common.{◌≡◌, refl, ap, sym, ◌∙◌, ℕ, zero, suc, ◌+◌, ◌<◌, ◌≤◌, List, [], ◌∷◌, ◌++◌, true, take, map, length, Option, Some, None, option_map, replicate, arith, add-one, ◌==◌}
use Rattle.std.specs.Prelude.{slice_get}
use Rattle.std.proofs.lemmas.Bool.{eq-eqb, eqb-true}
use Rattle.std.proofs.lemmas.List.{map-append}
use Rattle.std.proofs.lemmas.Option.{slice_get-map}
use Rattle.newt_reply.specs.Said.{soup_row}
use Rattle.newt_reply.specs.declared.rows.SoupLine.{SoupLine}
use Rattle.newt_spec_graph.specs.Lists.{Pairs, Among}
use Rattle.newt_spec_graph.proofs.Lists.{rises-pairs, pairs-map, get-among, some-same, none-some}
use Rattle.newt_spec_store.specs.Laid.{bare, bare_soup}
use Rattle.newt_spec_store.specs.Store.{Store, Soup, soup_of, count_in}
use Rattle.newt_spec_store.specs.Valid.{well_formed}
use Rattle.newt_spec_world.specs.declared.command.Command.TheVariants as command
use Rattle.newt_spec_world.specs.Reply.{Reply}
use Rattle.newt_spec_world.specs.World.{World}
use Rattle.newt_laws_world.proofs.Settled.{find-passes, find-some}
use Rattle.newt_laws_images.proofs.Assembled.{one-sig}
use Rattle.newt_laws_images.proofs.Stores.{is-store}
use Rattle.newt_spec_world.specs.Answer.{answer}
use Rattle.newt_laws_answers.specs.There.{OnUnit}
use Rattle.newt_laws_answers.proofs.Soups.{soups-done}
use Rattle.newt_engine_card.specs.Cards.{soup_rows}

-- ---- lists

-- the first of a list and one more
pub take-next : {X : Type 0} (xs : List X) (n : ℕ) (x : X) → slice_get xs n ≡ Some x → take (suc n) xs ≡ take n xs ++ x ∷ []
take-next [] n x h = absurd (none-some x h)
take-next (y ∷ xs) zero x h = ap {B = List _} (λ z. z ∷ []) (some-same y x h)
take-next (y ∷ xs) (suc n) x h = ap {A = List _} (λ zs. y ∷ zs) (take-next xs n x h)

-- and no more
pub take-past : {X : Type 0} (xs : List X) (n : ℕ) → slice_get xs n ≡ None → take (suc n) xs ≡ take n xs
take-past [] zero h = refl
take-past [] (suc n) h = refl
take-past (y ∷ xs) zero h = absurd (none-some y (sym h))
take-past (y ∷ xs) (suc n) h = ap {A = List _} (λ zs. y ∷ zs) (take-past xs n h)

pub take-whole : {X : Type 0} (xs : List X) (n : ℕ) → length xs ≤ n → take n xs ≡ xs
take-whole [] zero h = refl
take-whole [] (suc n) h = refl
take-whole (y ∷ xs) zero h = absurd (omega (arith, h))
take-whole (y ∷ xs) (suc n) h = ap {A = List _} (λ zs. y ∷ zs) (take-whole xs n (omega (arith, h)))

-- ---- the soup at a place

abbrev row : Soup → List ℕ × ℕ × ℕ
row p = (p.name, p.sig, length p.entries)

-- it is found by its signature
by-sig : (s : Store) (at : ℕ) (p : Soup) → well_formed s ≡ true → slice_get s.soups at ≡ Some p → soup_of p.sig s ≡ Some p
by-sig s at p ok h =
    let among : Among s.soups p = get-among s.soups at p h in
    let rise : Pairs (λ (a b : Soup). a.sig < b.sig) s.soups =
    pairs-map (λ m n. m < n) (λ (p : Soup). p.sig) s.soups (rises-pairs 0 s.next_soup (map (λ (p : Soup). p.sig) s.soups) (is-store s ok).sigs) in
    let r = find-some (λ (q : Soup). q.sig == p.sig) s.soups p among (eq-eqb p.sig p.sig refl) in
    let f = find-passes (λ (q : Soup). q.sig == p.sig) s.soups r.0 r.1 in
    r.1 ∙ ap Some (one-sig s.soups r.0 p rise f.1 among (eqb-true r.0.sig p.sig f.0))

abbrev pair : Soup → List ℕ × ℕ
pair p = (p.name, p.sig)

module _ (s : Store) (ok : well_formed s ≡ true) (t : Store) (known : bare s ≡ t) (at : ℕ) where
  bare-at : option_map pair (slice_get t.soups at) ≡ option_map pair (slice_get s.soups at)
  bare-at = ap (λ (t : Store). option_map pair (slice_get t.soups at)) (sym known) ∙ ap (option_map pair) (slice_get-map bare_soup s.soups at) ∙ go (slice_get s.soups at)
    where
      go : (o : Option Soup) → option_map pair (option_map bare_soup o) ≡ option_map pair o
      go None = refl
      go (Some p) = refl

  row-at : (o : Option Soup) → slice_get s.soups at ≡ o → slice_get (soup_rows s) at ≡ option_map row o
  row-at o e = slice_get-map row s.soups at ∙ ap (option_map row) e

  -- the lines so far, and that of a soup that is there
  pub row-next : (lines more : List SoupLine) (line : SoupLine) → more ≡ lines ++ line ∷ [] → map soup_row lines ≡ take at (soup_rows s)
      → ◌≡◌ {A = Option (List ℕ × ℕ)} (Some (line.name, line.sig)) (option_map pair (slice_get t.soups at)) → line.count ≡ count_in (soup_of line.sig s)
      → map soup_row more ≡ take (at + 1) (soup_rows s)
  row-next lines more line pushed so_far here counted =
      ap (map soup_row) pushed ∙ map-append soup_row lines (line ∷ []) ∙ ap {A = List (List ℕ × ℕ × ℕ)} (λ xs. xs ++ soup_row line ∷ []) so_far
      ∙ sym (ap (λ n. take n (soup_rows s)) (add-one at) ∙ take-next (soup_rows s) at (soup_row line) (go (slice_get s.soups at) refl))
    where
      go : (o : Option Soup) → slice_get s.soups at ≡ o → slice_get (soup_rows s) at ≡ Some (soup_row line)
      go None e = absurd (none-some (line.name, line.sig) (sym (here ∙ bare-at ∙ ap (option_map pair) e)))
      go (Some p) e =
          let same : ◌≡◌ {A = List ℕ × ℕ} (line.name, line.sig) (pair p) = some-same (line.name, line.sig) (pair p) (here ∙ bare-at ∙ ap (option_map pair) e) in
          let n : p.name ≡ line.name = ap (λ (x : List ℕ × ℕ). x.0) (sym same) in
          let g : p.sig ≡ line.sig = ap (λ (x : List ℕ × ℕ). x.1) (sym same) in
          let c : length p.entries ≡ line.count = ap count_in (sym (ap (λ k. soup_of k s) (sym g) ∙ by-sig s at p ok e)) ∙ sym counted in
          row-at (Some p) e
          ∙ ap {A = List ℕ × ℕ × ℕ} Some (ap {B = List ℕ × ℕ × ℕ} (λ m. (m, p.sig, length p.entries)) n ∙ ap {B = List ℕ × ℕ × ℕ} (λ m. (line.name, m, length p.entries)) g
          ∙ ap {B = List ℕ × ℕ × ℕ} (λ m. (line.name, line.sig, m)) c)

  -- and where none is there
  pub row-past : (lines : List SoupLine) → map soup_row lines ≡ take at (soup_rows s) → ◌≡◌ {A = Option (List ℕ × ℕ)} None (option_map pair (slice_get t.soups at)) → map soup_row lines ≡ take (at + 1) (soup_rows s)
  row-past lines so_far gone = so_far ∙ sym (ap (λ n. take n (soup_rows s)) (add-one at) ∙ take-past (soup_rows s) at (go (slice_get s.soups at) refl))
    where
      go : (o : Option Soup) → slice_get s.soups at ≡ o → slice_get (soup_rows s) at ≡ None
      go None e = row-at None e
      go (Some p) e = absurd (none-some (pair p) (gone ∙ bare-at ∙ ap (option_map pair) e))

length-rows : (ps : List Soup) → length (map row ps) ≡ length ps
length-rows [] = refl
length-rows (p ∷ ps) = ap suc (length-rows ps)

-- all of them
pub rows-whole : (s : Store) → well_formed s ≡ true → (n : ℕ) → 250 ≤ n → take n (soup_rows s) ≡ soup_rows s
rows-whole s ok n h = take-whole (soup_rows s) n (omega (arith, h, length-rows s.soups, (is-store s ok).count))

-- ---- the command

pub soups-answers : (w : World) (u blocks : ℕ) (s : Store) → OnUnit w u blocks s → w.cursors ≡ replicate 32 None → (rows : List (List ℕ × ℕ × ℕ)) → rows ≡ soup_rows s → answer w (command.Soups u) ≡ (w, Reply.soups rows)
soups-answers w u blocks s on none rows h = soups-done w u blocks s on none ∙ ap {A = List (List ℕ × ℕ × ℕ)} {B = World × Reply} (λ x. (w, Reply.soups x)) (sym h)
