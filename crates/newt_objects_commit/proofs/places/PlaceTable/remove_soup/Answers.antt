use Rattle.std.proofs.Common.{◌≡◌, ◌==◌, ℕ, Bool, not, true, false, List, sym, ◌∙◌, ap, rules}
use Rattle.std.specs.Map.{lookup}
use Rattle.std.specs.Ordering.{is_eq}
use Rattle.std.proofs.lemmas.Map.Made.{filter_same_pairs}
use Rattle.std.proofs.lemmas.Map.Entries.{lookup-filter-keys}
use Rattle.newt_pagebook.proofs.Tests.{equal_true, equal_false}
use Rattle.newt_objects.specs.Headers.{part_cmp}
use Rattle.newt_objects.proofs.Indexing.{same_part}
use Rattle.newt_objects_commit.proofs.places.PlaceTable.remove_soup.Goals as goal

-- a key that is found has its soup
same_soup : (sig s u : ℕ) (b : Bool) → (s == sig) ≡ b → (k : ℕ × ℕ) → is_eq (part_cmp (s, u) k) ≡ true → not (k.0 == sig) ≡ not b
same_soup sig s u b is k at = ap not (ap (λ (n : ℕ). n == sig) (ap (λ (q : ℕ × ℕ). q.0) (sym (same_part (s, u) k at))) ∙ is)

pub returns-clause-gone : goal.returns-clause-gone
returns-clause-gone c = λ uid.
    let e = filter_same_pairs _ (λ (p : (ℕ × ℕ) × ℕ). not (p.0.0 == c.args.sig)) _ (λ k v b w f' t. search rules) _ _ c.retain.ensures.filtered in
    ap (λ (rows : List ((ℕ × ℕ) × ℕ)). lookup (λ (q : ℕ × ℕ). is_eq (part_cmp (c.args.sig, uid) q)) rows) e
    ∙ lookup-filter-keys (λ (q : ℕ × ℕ). is_eq (part_cmp (c.args.sig, uid) q)) (λ (q : ℕ × ℕ). not (q.0 == c.args.sig)) false (same_soup c.args.sig c.args.sig uid true (equal_true c.args.sig c.args.sig (λ _. c.args.sig))) c.args.self.now.rows.entries

pub returns-clause-others : goal.returns-clause-others
returns-clause-others c = λ s u ne.
    let e = filter_same_pairs _ (λ (p : (ℕ × ℕ) × ℕ). not (p.0.0 == c.args.sig)) _ (λ k v b w f' t. search rules) _ _ c.retain.ensures.filtered in
    ap (λ (rows : List ((ℕ × ℕ) × ℕ)). lookup (λ (q : ℕ × ℕ). is_eq (part_cmp (s, u) q)) rows) e
    ∙ lookup-filter-keys (λ (q : ℕ × ℕ). is_eq (part_cmp (s, u) q)) (λ (q : ℕ × ℕ). not (q.0 == c.args.sig)) true (same_soup c.args.sig s u false (equal_false s c.args.sig ne)) c.args.self.now.rows.entries
