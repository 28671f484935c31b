-- A cursor that stands on a hit.
use Rattle.std.proofs.Common.{◌≡◌, refl, ap, sym, ◌∙◌, ◌*◌, ℕ, Bool, true, false, find, Option, Some, None, subst, option_map, option_and_then, ◌==◌, IsTrue, if◌then◌else◌}
use Rattle.newt_spec_graph.specs.Lists.{Each}
use Rattle.newt_spec_graph.proofs.Lists.{some-same, none-some}
use Rattle.newt_spec_store.specs.Store.{Store, Soup, Entry, entry_of, soup_of}
use Rattle.newt_spec_store.specs.Valid.{well_formed}
use Rattle.newt_spec_query.specs.Hits.{Query, Hit}
use Rattle.newt_spec_query.specs.Cursor.{Cursor, Place, start, finish, on, same_identity}
use Rattle.newt_spec_world.specs.Alias.{Spot}
use Rattle.newt_spec_world.specs.Answer.{current, or_nil, shown, spot_of}
use Rattle.newt_spec_world.specs.Reply.{Reply}
use Rattle.newt_spec_world.specs.World.{World, mounted, mounted_stores, hits_of}
use Rattle.newt_laws_world.specs.Settled.{MountedApart}
use Rattle.newt_laws_images.proofs.Chosen.{find-passes}
use Rattle.newt_laws_hits.specs.Located.{Located, located}
use Rattle.newt_laws_hits.proofs.Origins.{origin, hit-located}
use Rattle.newt_engine_cursors.specs.Keyed.{stands_on, key_now}
use Rattle.newt_spec_store.specs.Cost.{entry_pages}
use Rattle.newt_laws_answers.specs.Fetched.{pages_shown}
use Rattle.newt_engine_hits.specs.Present.{IsPresent, Present, entry_there, fetched_there, identity, with_entry, present_in}
use Rattle.newt_engine_hits.specs.declared.present.Present as code
use Rattle.std.specs.Prelude.{not}
use Rattle.newt_query.specs.Filter.{asks_texts}
use Rattle.newt_engine_cursors.specs.Replies.{hit_reply}
use Rattle.newt_engine_cursors.specs.Unread.{is_unread}
use Rattle.newt_engine_hits.specs.Searched.{located_in}
use Rattle.newt_engine_hits.proofs.Presence.{present-entry, present-fetched}
use Rattle.newt_engine_hits.proofs.Stores.{find-store}

-- ---- the entry of a hit is where its signatures say

spot-there : (w : World) (h : Hit) (f : Located) → located (mounted_stores w) h.store h.soup h.uid ≡ Some f → (s : Spot) × (spot_of w h ≡ Some s)
spot-there w h f e = go (find (λ m. m.1.sig == h.store) (mounted w)) refl (sym (ap (option_and_then (λ s. located_in s h.soup h.uid)) (find-store h.store 0 w.units)) ∙ e)
  where
    entry : (u : ℕ) (s : Store) (p : Soup) (o : Option Entry) → option_map {U = Located} (λ e. record { store = s; soup = p; entry = e }) o ≡ Some f
        → (x : Spot) × (option_map {U = Spot} (λ e. record { unit = u; soup = p; entry = e }) o ≡ Some x)
    entry u s p None k = absurd (none-some f k)
    entry u s p (Some e) k = (record { unit = u; soup = p; entry = e }, refl)

    soup : (u : ℕ) (s : Store) (o : Option Soup) → option_and_then {U = Located} (λ p. option_map (λ e. record { store = s; soup = p; entry = e }) (entry_of h.uid p)) o ≡ Some f
        → (x : Spot) × (option_and_then {U = Spot} (λ p. option_map (λ e. record { unit = u; soup = p; entry = e }) (entry_of h.uid p)) o ≡ Some x)
    soup u s None k = absurd (none-some f k)
    soup u s (Some p) k = entry u s p (entry_of h.uid p) k

    go : (o : Option (ℕ × Store)) → find (λ m. m.1.sig == h.store) (mounted w) ≡ o → option_and_then (λ s. located_in s h.soup h.uid) (option_map (λ (m : ℕ × Store). m.1) (find (λ m. m.1.sig == h.store) (mounted w))) ≡ Some f
        → (s : Spot) × (spot_of w h ≡ Some s)
    go None i k = absurd (none-some f (sym (ap (λ (o : Option (ℕ × Store)). option_and_then (λ s. located_in s h.soup h.uid) (option_map (λ (m : ℕ × Store). m.1) o)) i) ∙ k))
    go (Some (u, s)) i k =
        let r = soup u s (soup_of h.soup s) (sym (ap (λ (o : Option (ℕ × Store)). option_and_then (λ s. located_in s h.soup h.uid) (option_map (λ (m : ℕ × Store). m.1) o)) i) ∙ k) in
        (r.0, ap (λ (o : Option (ℕ × Store)). option_and_then {U = Spot} (λ m. option_and_then (λ p. option_map (λ e. record { unit = m.0; soup = p; entry = e }) (entry_of h.uid p)) (soup_of h.soup m.1)) o) i ∙ r.1)

module _ (w : World) (apart : MountedApart w) (formed : Each (λ s. IsTrue (well_formed s)) (mounted_stores w)) where
  -- a hit that is found has its entry
  pub hit-there : (q : Query) (at h : Hit) → find (same_identity at) (hits_of w q) ≡ Some h → (s : Spot) × (spot_of w h ≡ Some s)
  hit-there q at h e =
      let r = origin (mounted_stores w) q h (find-passes (same_identity at) (hits_of w q) h e).1 in
      spot-there w h r.at (hit-located (mounted_stores w) apart formed q h r)

  keys : (q : Query) (at : Hit) (o : Option Hit) → find (same_identity at) (hits_of w q) ≡ o
      → option_map (λ (p : Present). p.key) (option_and_then (with_entry w) o) ≡ option_map (λ (h : Hit). h.key) o
  keys q at None e = refl
  keys q at (Some h) e =
      let s = hit-there q at h e in
      ap (λ (x : Option Spot). option_map (λ (p : Present). p.key) (option_map (λ s. record { unit = s.unit; key = h.key; entry = s.entry }) x)) s.1

  pub key-present : (o : Option Cursor) (q : Query) (at : Hit) → Some (q, at) ≡ option_and_then stands_on o → (r : Option Present) → r ≡ present_in w q (identity at.store at.soup at.uid)
      → option_map (λ (p : Present). p.key) r ≡ option_and_then (key_now w) o
  key-present None q at e r is = absurd (none-some (q, at) (sym e))
  key-present (Some k) q at e r is = go k.query k.place e
    where
      go : (query : Query) (place : Place) → Some (q, at) ≡ stands_on (record { query = query; place = place })
          → option_map (λ (p : Present). p.key) r ≡ key_now w (record { query = query; place = place })
      go query start e = absurd (none-some (q, at) (sym e))
      go query finish e = absurd (none-some (q, at) (sym e))
      go query (on h) e =
          let same = some-same (q, at) (query, h) e in
          ap (option_map (λ (p : Present). p.key)) is ∙ keys q at (find (same_identity at) (hits_of w q)) refl
          ∙ ap (λ (x : Query × Hit). option_map (λ (h : Hit). h.key) (find (same_identity x.1) (hits_of w x.0))) same

-- what is shown of a hit with its entry, or where there is none
abbrev pub present_reply : Option Present → Reply
present_reply None = Reply.deleted
present_reply (Some p) = Reply.current p.unit p.entry.uid p.entry.time p.entry.graph

module _ (w : World) where
  spots : (o : Option Hit) → present_reply (option_and_then (with_entry w) o) ≡ (elim (option_and_then (spot_of w) o) [ Some s ↦ shown s | None ↦ Reply.deleted ])
  spots None = refl
  spots (Some h) = go (spot_of w h)
    where
      go : (x : Option Spot) → present_reply (option_map (λ s. record { unit = s.unit; key = h.key; entry = s.entry }) x) ≡ (elim x [ Some s ↦ shown s | None ↦ Reply.deleted ])
      go None = refl
      go (Some s) = refl

  pub shown-present : (o : Option Cursor) (q : Query) (at : Hit) → Some (q, at) ≡ option_and_then stands_on o → (r : Option Present) → r ≡ present_in w q (identity at.store at.soup at.uid)
      → present_reply r ≡ or_nil (current w) o
  shown-present None q at e r is = absurd (none-some (q, at) (sym e))
  shown-present (Some k) q at e r is = go k.query k.place e
    where
      go : (query : Query) (place : Place) → Some (q, at) ≡ stands_on (record { query = query; place = place }) → present_reply r ≡ current w (record { query = query; place = place })
      go query start e = absurd (none-some (q, at) (sym e))
      go query finish e = absurd (none-some (q, at) (sym e))
      go query (on h) e =
          let same = some-same (q, at) (query, h) e in
          ap present_reply is ∙ spots (find (same_identity at) (hits_of w q))
          ∙ ap (λ (x : Query × Hit). current w (record { query = x.0; place = on x.1 })) same

-- ---- a hit of the code

-- the keys are the same
pub present-keys : (found : Option code.Present) (x : Option Present) → IsPresent found x → option_map (λ (p : code.Present). p.key) found ≡ option_map (λ (p : Present). p.key) x
present-keys None x is = ap (option_map (λ (p : Present). p.key)) (sym is)
present-keys (Some p) None is = absurd is
present-keys (Some p) (Some y) is = ap Some is.1

-- what is shown of one
pub record ShownThere (w : World) (q : Query) (at : Hit) (hit : code.Present) (o : Option Cursor) : Type 0 where
  pub present : Present
  pub here : present_in w q (identity at.store at.soup at.uid) ≡ Some present
  pub same : IsPresent (Some hit) (Some present)
  pub there : entry_there w at.store at.soup at.uid ≡ Some present.entry
  pub reply_is : hit_reply present ≡ or_nil (current w) o
  pub pages : (u : ℕ) → fetched_there w at.store at.soup at.uid u ≡ 512 * pages_shown (or_nil (current w) o) u

pub shown-there : (w : World) (o : Option Cursor) (q : Query) (at : Hit) → Some (q, at) ≡ option_and_then stands_on o → (hit : code.Present)
    → IsPresent (Some hit) (present_in w q (identity at.store at.soup at.uid)) → ShownThere w q at hit o
shown-there w o q at e hit is = go (present_in w q (identity at.store at.soup at.uid)) refl is
  where
    times : (b : Bool) (n : ℕ) → (if b then 512 * n else 0) ≡ 512 * (if b then n else 0)
    times true n = refl
    times false n = refl

    go : (r : Option Present) → present_in w q (identity at.store at.soup at.uid) ≡ r → IsPresent (Some hit) r → ShownThere w q at hit o
    go None f is = absurd is
    go (Some x) f is =
        let reply_is : hit_reply x ≡ or_nil (current w) o = ap present_reply (sym f) ∙ shown-present w o q at e (present_in w q (identity at.store at.soup at.uid)) refl in
        record {
          present = x;
          here = f;
          same = is;
          there = present-entry w q at.store at.soup at.uid x f;
          reply_is = reply_is;
          pages = λ u. present-fetched w q at.store at.soup at.uid x f u ∙ times (x.unit == u) (entry_pages x.entry) ∙ ap (λ (r : Reply). 512 * pages_shown r u) reply_is;
        }

-- the same of a hit that is known without the code
pub found-shown : (w : World) (o : Option Cursor) (q : Query) (at : Hit) → Some (q, at) ≡ option_and_then stands_on o → (x : Present) → present_in w q (identity at.store at.soup at.uid) ≡ Some x
    → ShownThere w q at (record { unit = x.unit; key = x.key; entry = None }) o
found-shown w o q at e x is =
    shown-there w o q at e (record { unit = x.unit; key = x.key; entry = None })
    (subst (λ (f : Option Present). IsPresent (Some (record { unit = x.unit; key = x.key; entry = None })) f) (sym is) (refl, refl, tt))

-- nothing is shown of what is no hit
pub absent-shown : (w : World) (o : Option Cursor) (q : Query) (at : Hit) → Some (q, at) ≡ option_and_then stands_on o
    → IsPresent None (present_in w q (identity at.store at.soup at.uid)) → Reply.deleted ≡ or_nil (current w) o
absent-shown w o q at e is = ap present_reply (sym is) ∙ shown-present w o q at e (present_in w q (identity at.store at.soup at.uid)) refl

-- the query of a cursor that stands on a hit and asks for no words or texts
pub stands-query : (o : Option Cursor) (q : Query) (at : Hit) → Some (q, at) ≡ option_and_then stands_on o → is_unread o ≡ true → asks_texts q.spec ≡ false
stands-query None q at e un = absurd (none-some (q, at) (sym e))
stands-query (Some k) q at e un = go k.query k.place e un
  where
    not-true : (b : Bool) → not b ≡ true → b ≡ false
    not-true true h = cc
    not-true false h = refl

    go : (query : Query) (place : Place) → Some (q, at) ≡ stands_on (record { query = query; place = place }) → not (asks_texts query.spec) ≡ true → asks_texts q.spec ≡ false
    go query start e un = absurd (none-some (q, at) (sym e))
    go query finish e un = absurd (none-some (q, at) (sym e))
    go query (on h) e un = ap (λ (x : Query × Hit). asks_texts x.0.spec) (some-same (q, at) (query, h) e) ∙ not-true (asks_texts query.spec) un
