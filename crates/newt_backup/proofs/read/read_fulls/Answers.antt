use Rattle.std.proofs.Common.{rules, ◌≡◌, ◌-◌, ◌++◌, ◌∷◌, [], subst, List, Vec, ℕ, Global, length, take, drop, map, Some}
use Rattle.std.specs.Prelude.{option_map}
use Rattle.newt_spec_graph.specs.Graph.{every}
use Rattle.newt_backup.specs.Texts.{full_read}
use Rattle.newt_entries.specs.Full.{told}
use Rattle.newt_backup.proofs.Steps.{opened}
use Rattle.newt_backup.proofs.Back.{fulls-more}
use Rattle.newt_backup.proofs.read.read_fulls.Goals as goal

pub loop-left-preserved : goal.loop-left-preserved
loop-left-preserved c =
    let left = c.loop-left.left.now in
    let x = c.text-item.result in
    let out = c.loop-left.entries.items in
    let all = every (map full_read (map (λ (t : Vec ℕ Global). t.items) c.args.texts.now)) in
    let o = opened x left c.in-len1-up.len_at_least c.text-item.is in
    let e = subst (λ (l : List (Vec ℕ Global)). option_map (λ ys. map told out ++ ys) (every (map full_read (map (λ (t : Vec ℕ Global). t.items) l))) ≡ all) o c.loop-left.invariant in
    let r : full_read x.items ≡ Some (told c.in_ok-read_full.field-0) = search rules in
    let n : c.push.new.self.items ≡ out ++ c.in_ok-read_full.field-0 ∷ [] = search rules in
    fulls-more out c.push.new.self.items c.in_ok-read_full.field-0 x.items (map (λ (t : Vec ℕ Global). t.items) (take (length left - 1) (drop 1 left))) all e r n
