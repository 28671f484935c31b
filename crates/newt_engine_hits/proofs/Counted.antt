-- The number of the hits of a query, counted along the merge.
use Rattle.std.proofs.Common.{arith, ◌≡◌, ap, sym, ◌∙◌, ℕ, ◌+◌, ◌≤◌, ◌<◌, ◌^◌, Bool, cond, length, Option, Some, IsTrue}
use Rattle.newt_spec_graph.specs.Lists.{Each}
use Rattle.newt_spec_store.specs.Valid.{well_formed}
use Rattle.newt_spec_query.specs.Hits.{Query, Hit}
use Rattle.newt_spec_query.specs.Cursor.{on}
use Rattle.newt_spec_world.specs.World.{World, mounted_stores, hits_of}
use Rattle.newt_laws_world.specs.Settled.{MountedApart}
use Rattle.newt_union.specs.Merged.{merged}
use Rattle.newt_laws_hits.specs.Stripped.{passing}
use Rattle.newt_laws_hits.specs.Taking.{members_of}
use Rattle.newt_laws_hits.specs.Walk.{counted, count_after}
use Rattle.newt_laws_hits.proofs.Numbers.{hits-few}
use Rattle.newt_laws_hits.proofs.Searches.{first-count, next-count}
use Rattle.newt_engine_hits.specs.Ways.{met, beyond}
use Rattle.newt_engine_hits.specs.declared.ways.Way.TheVariants.{On}

-- how many hits a walk counts from one of the merge on
abbrev pub counts : World → Query → Option Hit → ℕ
counts w q o = counted (passing (mounted_stores w) q) (count_after q.spec.index (hits_of w q)) o

module _ (w : World) (q : Query) (apart : MountedApart w) (formed : Each (λ s. IsTrue (well_formed s)) (mounted_stores w)) where
  pub all-counted : length (hits_of w q) ≡ counts w q (met On (merged q.spec.index (members_of (mounted_stores w) q)))
  all-counted = first-count (mounted_stores w) q apart formed

  pub kept-counted : (h : Hit) (b : Bool) → b ≡ passing (mounted_stores w) q h → counts w q (Some h) ≡ cond b 1 0 + counts w q (beyond On q.spec.index (members_of (mounted_stores w) q) h)
  kept-counted h b e = ap (λ b. cond b 1 0 + count_after q.spec.index (hits_of w q) (on h)) (sym e) ∙ ap (λ n. cond b 1 0 + n) (next-count (mounted_stores w) q apart formed h)

  pub all-few : length (mounted_stores w) ≤ 8 → length (hits_of w q) < 2 ^ 32
  all-few few = hits-few (mounted_stores w) q apart formed few

-- the sum after one more hit
pub counted-on : (total count x b r n now : ℕ) → total ≡ count + x → x ≡ b + r → n ≡ r → total < 2 ^ 32 → (count + b < 2 ^ 32 → now ≡ count + b) → total ≡ now + n
counted-on total count x b r n now was is next few more = let k = more (omega (arith, was, is, few)) in omega (arith, was, is, next, k)

pub counted-first : (total n : ℕ) → total ≡ n → total ≡ 0 + n
counted-first total n e = omega (arith, e)
