-- The normal form of what was put into a draft.
use Rattle.std.proofs.Common.{◌≡◌, refl, sym, subst, ap, Option, Some, None, option_and_then, unwrap_or}
use Rattle.newt_graph.specs.Graph.{RawGraph}
use Rattle.newt_graph.specs.Meeting.{normal_form}
use Rattle.newt_path.specs.Put.{IsFormOf}
use Rattle.newt_work.specs.Work.{Copy, edited}

-- what has the normal form as its draft is the copy that is defined
pub formed : (o : Option RawGraph) (d g : RawGraph) (k new : Copy) → IsFormOf o d → new ≡ edited d k → new ≡ edited (unwrap_or (option_and_then normal_form o) g) k
formed None d g k new f e = absurd f
formed (Some raw) d g k new f e = subst (λ (x : RawGraph). new ≡ edited x k) (sym (ap (λ o. unwrap_or o g) f.1)) e
