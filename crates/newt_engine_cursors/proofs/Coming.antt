-- A cursor that was moved to a hit stands on one.
use Rattle.std.proofs.Common.{◌≡◌, refl, ap, sym, ◌∙◌, subst, ℕ, Bool, true, false, ◌&&◌, cond, ◌⊎◌, inl, inr, List, [], ◌∷◌, find, filter, Option, Some, None, option_map, option_and_then, IsTrue}
use Rattle.std.specs.List.{last_or}
use Rattle.std.proofs.lemmas.Bool.{eq-eqb}
use Rattle.newt_spec_graph.specs.Lists.{Among, Each}
use Rattle.newt_spec_graph.proofs.Lists.{among-filter, both-ways, some-same, none-some}
use Rattle.newt_spec_store.specs.Keys.{IndexSpec}
use Rattle.newt_spec_store.specs.Valid.{well_formed}
use Rattle.newt_spec_query.specs.Hits.{Query, Hit}
use Rattle.newt_spec_query.specs.Cursor.{Cursor, Place, start, finish, on_or, first_place, is_after, is_before, last_place, same_identity}
use Rattle.newt_spec_world.specs.Alias.{Spot}
use Rattle.newt_spec_world.specs.Answer.{spot_of}
use Rattle.newt_spec_world.specs.World.{World, cursor, hits_of, mounted_stores}
use Rattle.newt_laws_world.specs.Settled.{MountedApart}
use Rattle.newt_laws_images.proofs.Chosen.{find-passes}
use Rattle.newt_engine_hits.specs.Present.{Present, identity, present_in}
use Rattle.newt_engine_hits.specs.declared.ways.Way.TheVariants.{On, Back}
use Rattle.newt_engine_cursors.specs.Motions.{ComesAmong, IsAmong, leads_to_hits, step_of}
use Rattle.newt_engine_cursors.specs.declared.stepping.Motion.{Motion}
use Rattle.newt_engine_cursors.specs.declared.stepping.Motion.TheVariants as motion
use Rattle.newt_engine_cursors.proofs.Standing.{hit-there}

-- ---- lists

-- where an element passes, one is found
found-one : {X : Type 0} (test : X → Bool) (xs : List X) (x : X) → Among xs x → test x ≡ true → (y : X) × (find test xs ≡ Some y)
found-one test [] x m h = absurd m
found-one test (y ∷ ys) x m h = go (found-one test ys x) (test y) refl m
  where
    go : (Among ys x → test x ≡ true → (z : _) × (find test ys ≡ Some z)) → (b : Bool) → test y ≡ b → Among (y ∷ ys) x → (z : _) × (cond b (Some y) (find test ys) ≡ Some z)
    go more true is n = (y, refl)
    go more false is (inl k) = absurd (both-ways (sym is ∙ ap test k ∙ h))
    go more false is (inr k) = more k h

-- the last is there
last-there : {X : Type 0} (o : Option X) (xs : List X) (x : X) → last_or o xs ≡ Some x → (o ≡ Some x) ⊎ Among xs x
last-there o [] x e = inl e
last-there o (y ∷ ys) x e = go (last-there (Some y) ys x e)
  where
    go : (Some y ≡ Some x) ⊎ Among ys x → (o ≡ Some x) ⊎ Among (y ∷ ys) x
    go (inl k) = inr (inl (some-same y x k))
    go (inr m) = inr (inr m)

-- ---- where a motion comes to

module _ (hs ys : List Hit) (among : (h : Hit) → Among ys h → Among hs h) where
  first-among : IsAmong hs (first_place ys)
  first-among = go (find (λ _. true) ys) refl
    where
      go : (o : Option Hit) → find (λ _. true) ys ≡ o → IsAmong hs (on_or finish o)
      go None e = tt
      go (Some h) e = among h (find-passes (λ _. true) ys h e).1

  last-among : IsAmong hs (last_place ys)
  last-among = go (last_or None ys) refl
    where
      go : (o : Option Hit) → last_or None ys ≡ o → IsAmong hs (on_or start o)
      go None e = tt
      go (Some h) e = at (last-there None ys h e)
        where
          at : (None ≡ Some h) ⊎ Among ys h → Among hs h
          at (inl k) = absurd (none-some h k)
          at (inr m) = among h m

kept-among : (hs : List Hit) (keep : Hit → Bool) (h : Hit) → Among (filter keep hs) h → Among hs h
kept-among hs keep h m = (among-filter keep hs h m).0

pub motion-among : (by : Motion) → leads_to_hits by ≡ true → (hs : List Hit) (index : IndexSpec) (place : Place) → IsAmong hs (step_of by hs index place)
motion-among (motion.Step On) e hs index place = first-among hs (filter (is_after index place) hs) (kept-among hs (is_after index place))
motion-among (motion.Step Back) e hs index place = last-among hs (filter (is_before index place) hs) (kept-among hs (is_before index place))
motion-among (motion.Leap On) e hs index place = first-among hs hs (λ h m. m)
motion-among (motion.Leap Back) e hs index place = last-among hs hs (λ h m. m)
motion-among (motion.By n) e hs index place = absurd (both-ways e)
motion-among (motion.Key key) e hs index place = first-among hs (filter _ hs) (kept-among hs _)

-- ---- the entry of a hit

module _ (w : World) (apart : MountedApart w) (formed : Each (λ s. IsTrue (well_formed s)) (mounted_stores w)) where
  -- a hit is there with its entry
  pub hit-present : (q : Query) (at : Hit) → Among (hits_of w q) at → (x : Present) × (present_in w q (identity at.store at.soup at.uid) ≡ Some x)
  hit-present q at m = go (found-one (same_identity at) (hits_of w q) at m itself)
    where
      itself : same_identity at at ≡ true
      itself = (λ i. (eq-eqb at.store at.store refl i) && (eq-eqb at.soup at.soup refl i) && (eq-eqb at.uid at.uid refl i))

      go : (h : Hit) × (find (same_identity at) (hits_of w q) ≡ Some h) → (x : Present) × (present_in w q (identity at.store at.soup at.uid) ≡ Some x)
      go (h, e) =
          let s = hit-there w apart formed q at h e in (
            record { unit = s.0.unit; key = h.key; entry = s.0.entry },
            ap (option_and_then (λ (h : Hit). option_map {U = Present} (λ (s : Spot). record { unit = s.unit; key = h.key; entry = s.entry }) (spot_of w h))) e
                ∙ ap (option_map {U = Present} (λ (s : Spot). record { unit = s.unit; key = h.key; entry = s.entry })) s.1,
          )

-- ---- a cursor that comes there

-- one whose hits a motion was taken among comes to one of them
pub comes-among : (w : World) (n : ℕ) (by : Motion) (k : Cursor) (next : Place) → Some k ≡ cursor w n → next ≡ step_of by (hits_of w k.query) k.query.spec.index k.place → leads_to_hits by ≡ true
    → ComesAmong w n next
comes-among w n by k next there at leads j here =
    subst (λ (x : Cursor). IsAmong (hits_of w x.query) next) (some-same k j (there ∙ here))
    (subst (IsAmong (hits_of w k.query)) (sym at) (motion-among by leads (hits_of w k.query) k.query.spec.index k.place))
