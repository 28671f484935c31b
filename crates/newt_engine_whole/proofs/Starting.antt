-- Where there is no copy, all drafts fit.
use Rattle.std.proofs.Common.{◌≡◌, ap, sym, ◌∙◌, ℕ, zero, suc, List, Option, Some, None, replicate}
use Rattle.newt_spec_graph.proofs.Lists.{none-some}
use Rattle.newt_work.specs.Work.{Copy, copy_at}
use Rattle.newt_laws_whole.specs.Runs.{DraftsFit}

no-copy : (most n : ℕ) (k : Copy) → copy_at n (replicate most None) ≡ Some k → ⊥
no-copy zero n k h = none-some k h
no-copy (suc most) zero k h = none-some k h
no-copy (suc most) (suc n) k h = no-copy most n k h

pub none-fit : (copies : List (Option Copy)) → copies ≡ replicate 16 None → DraftsFit copies
none-fit copies none n k h = absurd (no-copy 16 n k (ap (copy_at n) (sym none) ∙ h))
