-- Walks among the hits of the merge.
use Rattle.std.proofs.Common.{arith, ◌≡◌, refl, ap, sym, ◌∙◌, ℕ, zero, suc, ◌+◌, ◌<◌, ◌≤◌, ◌^◌, List, [], ◌∷◌, true, false, cond, filter, length, Option, Some, None, IsTrue, ℤ, pos, negsuc, to_z, of_z}
use Rattle.std.specs.Prelude.{FitsSigned}
use Rattle.std.specs.Int.{w32}
use Rattle.std.specs.Int.Signed.{lt_z}
use Rattle.std.proofs.Math.IntN.{nat_abs}
use Rattle.std.proofs.lemmas.Int.{to_z-of_z}
use Rattle.newt_spec_graph.specs.Lists.{Each}
use Rattle.newt_spec_store.specs.Keys.{IndexSpec, Key}
use Rattle.newt_spec_store.specs.Store.{Store}
use Rattle.newt_spec_store.specs.Valid.{well_formed}
use Rattle.newt_spec_query.specs.Hits.{Query, Hit}
use Rattle.newt_spec_query.specs.Cursor.{Place, start, finish, on, is_after, is_before, first_place, last_place, next_place, place_at_key, repeated, moved}
use Rattle.newt_spec_world.specs.World.{World, mounted_stores, hits_of}
use Rattle.newt_laws_world.specs.Settled.{MountedApart}
use Rattle.newt_laws_changes.proofs.Soups.{filter-length}
use Rattle.newt_union.specs.Merged.{merged, at_or_after}
use Rattle.newt_union.proofs.Union.{all_pass}
use Rattle.newt_laws_hits.specs.Stripped.{passing, stripped}
use Rattle.newt_laws_hits.specs.Taking.{members_of}
use Rattle.newt_laws_hits.specs.Walk.{walked, count_after, count_before}
use Rattle.newt_laws_hits.proofs.Members.{merged-is}
use Rattle.newt_laws_hits.proofs.Numbers.{hits-few}
use Rattle.newt_laws_hits.proofs.Searches.{first-search, last-search, next-search, previous-search, at_key-search, next-fewer, previous-fewer}
use Rattle.newt_engine_hits.specs.Ways.{met, beyond, outset, edge, outermost, stepping, is_at_edge}
use Rattle.newt_engine_hits.specs.declared.ways.Way.{Way}
use Rattle.newt_engine_hits.specs.declared.ways.Way.TheVariants.{On, Back}

-- how many hits a way has from one on
abbrev pub ahead : Way → IndexSpec → List Hit → Option Hit → ℕ
ahead way index hs None = 0
ahead On index hs (Some h) = 1 + count_after index hs (on h)
ahead Back index hs (Some h) = 1 + count_before index hs (on h)

ahead-few : (way : Way) (index : IndexSpec) (hs : List Hit) (o : Option Hit) → ahead way index hs o ≤ 1 + length hs
ahead-few On index hs None = omega arith
ahead-few Back index hs None = omega arith
ahead-few On index hs (Some h) = let k = filter-length (is_after index (on h)) hs in omega (arith, k)
ahead-few Back index hs (Some h) = let k = filter-length (is_before index (on h)) hs in omega (arith, k)

-- where a walk comes to
abbrev pub comes_to : World → Query → Way → Option Hit → Place
comes_to w q way o = walked (passing (mounted_stores w) q) (edge way) (stepping way (hits_of w q) q.spec.index) o

module _ (w : World) (q : Query) (apart : MountedApart w) (formed : Each (λ s. IsTrue (well_formed s)) (mounted_stores w)) where
  abbrev stores : List Store
  stores = mounted_stores w

  abbrev all_hits : List Hit
  all_hits = merged q.spec.index (members_of stores q)

  pub outermost-goal : (way : Way) → outermost way (hits_of w q) ≡ comes_to w q way (met way all_hits)
  outermost-goal On = first-search stores q apart formed
  outermost-goal Back = last-search stores q apart formed

  pub step-goal : (way : Way) (h : Hit) → stepping way (hits_of w q) q.spec.index (on h) ≡ comes_to w q way (beyond way q.spec.index (members_of stores q) h)
  step-goal On h = next-search stores q apart formed h
  step-goal Back h = previous-search stores q apart formed h

  pub key-goal : (k : Key) → place_at_key (hits_of w q) q.spec.index k ≡ comes_to w q On (at_or_after q.spec.index (members_of stores q) k)
  key-goal k = at_key-search stores q apart formed k

  -- a hit that passes, and one that does not
  pub passed-goal : (way : Way) (h : Hit) → true ≡ passing stores q h → comes_to w q way (Some h) ≡ on h
  passed-goal way h e = ap (λ b. cond b (on h) (stepping way (hits_of w q) q.spec.index (on h))) (sym e)

  pub over-goal : (way : Way) (h : Hit) → false ≡ passing stores q h → comes_to w q way (Some h) ≡ comes_to w q way (beyond way q.spec.index (members_of stores q) h)
  over-goal way h e = ap (λ b. cond b (on h) (stepping way (hits_of w q) q.spec.index (on h))) (sym e) ∙ step-goal way h

  -- fewer and fewer hits are ahead
  pub ahead-fewer : (way : Way) (h : Hit) → ahead way q.spec.index all_hits (beyond way q.spec.index (members_of stores q) h) < ahead way q.spec.index all_hits (Some h)
  ahead-fewer way h = go way (beyond way q.spec.index (members_of stores q) h) refl
    where
      go : (way : Way) (o : Option Hit) → beyond way q.spec.index (members_of stores q) h ≡ o → ahead way q.spec.index all_hits o < ahead way q.spec.index all_hits (Some h)
      go On None e = omega arith
      go Back None e = omega arith
      go On (Some g) e = let k = next-fewer stores q apart formed h g e in omega (arith, k)
      go Back (Some g) e = let k = previous-fewer stores q apart formed h g e in omega (arith, k)

  pub ahead-start : length stores ≤ 8 → (way : Way) (o : Option Hit) → ahead way q.spec.index all_hits o ≤ 2 ^ 32
  ahead-start few way o =
      let k = ahead-few way q.spec.index all_hits o in
      let n = hits-few stores (stripped q) apart formed few in
      let same = ap length (merged-is stores q apart formed) in
      omega (arith, k, n, same)

-- ---- steps

filter-no : {X : Type 0} (xs : List X) → filter (λ x. false) xs ≡ []
filter-no [] = refl
filter-no (x ∷ xs) = filter-no xs

-- from where the way begins
pub step-outset : (way : Way) (hs : List Hit) (index : IndexSpec) → stepping way hs index (outset way) ≡ outermost way hs
step-outset On hs index = ap first_place (all_pass hs)
step-outset Back hs index = ap last_place (all_pass hs)

-- from where it ends
pub step-edge : (way : Way) (hs : List Hit) (index : IndexSpec) → stepping way hs index (edge way) ≡ edge way
step-edge On hs index = ap first_place (filter-no hs)
step-edge Back hs index = ap last_place (filter-no hs)

pub repeated-edge : (n : ℕ) (way : Way) (hs : List Hit) (index : IndexSpec) → repeated n (stepping way hs index) (edge way) ≡ edge way
repeated-edge zero way hs index = refl
repeated-edge (suc n) way hs index = ap (repeated n (stepping way hs index)) (step-edge way hs index) ∙ repeated-edge n way hs index

pub at-edge : (way : Way) (place : Place) → true ≡ is_at_edge way place → place ≡ edge way
at-edge On start e = cc
at-edge On finish e = refl
at-edge On (on h) e = cc
at-edge Back start e = refl
at-edge Back finish e = cc
at-edge Back (on h) e = cc

-- a number that is not below zero
pub moved-on : (by : ℤ) (n : ℕ) → FitsSigned w32 by → lt_z (to_z w32 (of_z w32 by)) (pos 0) ≡ false → n ≡ nat_abs (to_z w32 (of_z w32 by))
    → (hs : List Hit) (index : IndexSpec) (place : Place) → repeated n (next_place hs index) place ≡ moved by hs index place
moved-on by n fits least is hs index place = go by (sym (ap (λ z. lt_z z (pos 0)) (to_z-of_z w32 by fits)) ∙ least) (is ∙ ap nat_abs (to_z-of_z w32 by fits))
  where
    go : (by : ℤ) → lt_z by (pos 0) ≡ false → n ≡ nat_abs by → repeated n (next_place hs index) place ≡ moved by hs index place
    go (pos m) l e = ap (λ k. repeated k (next_place hs index) place) e
    go (negsuc m) l e = cc
