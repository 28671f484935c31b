-- The mask of an id after a change.
use Rattle.std.proofs.Common.{◌≡◌, ℕ, ◌==◌, Bool, true, false, not, cond, List, [], ◌∷◌, filter, Option, Some, None, refl, sym, ◌∙◌, ap}
use Rattle.std.specs.declared.cmp.Ordering.{Ordering}
use Rattle.std.specs.declared.cmp.Ordering.TheVariants.{Less, Equal, Greater}
use Rattle.std.specs.BTreeMap.{insert_entry, is_at}
use Rattle.std.specs.Map.{lookup, remove_entry}
use Rattle.std.specs.Ordering.{nat_cmp, is_eq, match_ordering}
use Rattle.std.specs.FinMap.{nat_cmp-IsAntisymmetric}
use Rattle.std.proofs.lemmas.Bool.{eq-eqb}
use Rattle.std.proofs.lemmas.Cmp.{nat_cmp_total, tied_itself}
use Rattle.newt_spec_graph.proofs.Lists.{both-ways}
use Rattle.newt_index_ranges.proofs.Lookups.{agree, other, another, unchanged, none_here}

abbrev Marks : Type 0
Marks = List (ℕ × ℕ)

-- ---- tests of ids

unequal : (u n : ℕ) (o : Ordering) → nat_cmp u n ≡ o → (o ≡ Equal → ⊥) → (n == u) ≡ false
unequal u n o is apart = go (n == u) refl
  where
    go : (b : Bool) → (n == u) ≡ b → b ≡ false
    go true e = absurd (apart (sym is ∙ ap (nat_cmp u) (agree n u e) ∙ tied_itself nat_cmp_total u))
    go false e = refl

same_number : (u n : ℕ) → is_eq (nat_cmp u n) ≡ (n == u)
same_number u n = go (nat_cmp u n) refl
  where
    go : (o : Ordering) → nat_cmp u n ≡ o → is_eq o ≡ (n == u)
    go Less is = sym (unequal u n Less is (λ h. cc))
    go Equal is = sym (eq-eqb n u (sym (nat_cmp-IsAntisymmetric u n is)))
    go Greater is = sym (unequal u n Greater is (λ h. cc))

pub looked-up : (u : ℕ) (es : Marks) → lookup (is_at (nat_cmp u)) es ≡ lookup (λ k. k == u) es
looked-up u es = λ i. lookup (λ k. same_number u k i) es

-- ---- a mask more

pub mark-added : (es : Marks) (u x w : ℕ) → lookup (λ k. k == w) (insert_entry nat_cmp es u x) ≡ cond (u == w) (Some x) (lookup (λ k. k == w) es)
mark-added [] u x w = refl
mark-added (e ∷ es) u x w = go (nat_cmp u e.0) refl (mark-added es u x w)
  where
    over : (c d : Bool) → c ≡ d → cond d (Some x) (lookup (λ k. k == w) es) ≡ cond c (Some x) (cond d (Some e.1) (lookup (λ k. k == w) es))
    over true true s = refl
    over false false s = refl
    over true false s = absurd (both-ways (sym s))
    over false true s = absurd (both-ways s)

    past : (c d : Bool) → (u == w) ≡ c → (e.0 == w) ≡ d → (e.0 == u) ≡ false
        → cond d (Some e.1) (cond c (Some x) (lookup (λ k. k == w) es)) ≡ cond c (Some x) (cond d (Some e.1) (lookup (λ k. k == w) es))
    past true true f g apart = absurd (both-ways (sym (other e.0 u w apart f) ∙ g))
    past true false f g apart = refl
    past false true f g apart = refl
    past false false f g apart = refl

    go : (o : Ordering) → nat_cmp u e.0 ≡ o → lookup (λ k. k == w) (insert_entry nat_cmp es u x) ≡ cond (u == w) (Some x) (lookup (λ k. k == w) es)
        → lookup (λ k. k == w) (match_ordering o ((u, x) ∷ e ∷ es) ((e.0, x) ∷ es) (e ∷ insert_entry nat_cmp es u x)) ≡ cond (u == w) (Some x) (cond (e.0 == w) (Some e.1) (lookup (λ k. k == w) es))
    go Less is rest = refl
    go Equal is rest = over (u == w) (e.0 == w) (ap (λ k. k == w) (nat_cmp-IsAntisymmetric u e.0 is))
    go Greater is rest = ap (λ (o : Option ℕ). cond (e.0 == w) (Some e.1) o) rest ∙ past (u == w) (e.0 == w) refl refl (unequal u e.0 Greater is (λ h. cc))

-- ---- a mask gone

abbrev others : ℕ → Marks → Marks
others u es = filter (λ e. not (e.0 == u)) es

pub mark-removed : (es : Marks) (u w : ℕ) → lookup (λ k. k == w) (filter (λ e. not (e.0 == u)) es) ≡ cond (u == w) None (lookup (λ k. k == w) es)
mark-removed [] u w = unchanged (u == w) None refl
mark-removed (d ∷ es) u w = go (d.0 == u) refl (u == w) (d.0 == w) refl refl (mark-removed es u w)
  where
    go : (b : Bool) → (d.0 == u) ≡ b → (c g : Bool) → (u == w) ≡ c → (d.0 == w) ≡ g → lookup (λ k. k == w) (others u es) ≡ cond c None (lookup (λ k. k == w) es)
        → lookup (λ k. k == w) (cond (not b) (d ∷ others u es) (others u es)) ≡ cond c None (cond g (Some d.1) (lookup (λ k. k == w) es))
    go true e true d f h rest = rest
    go true e false true f h rest = absurd (both-ways (sym (another d.0 u w e f) ∙ h))
    go true e false false f h rest = rest
    go false e true true f h rest = absurd (both-ways (sym (other d.0 u w e f) ∙ h))
    go false e true false f h rest = ap (λ b. cond b (Some d.1) (lookup (λ k. k == w) (others u es))) h ∙ rest
    go false e false true f h rest = ap (λ b. cond b (Some d.1) (lookup (λ k. k == w) (others u es))) h
    go false e false false f h rest = ap (λ b. cond b (Some d.1) (lookup (λ k. k == w) (others u es))) h ∙ rest

-- where no mask of the id is left, the one that was taken out was the only one
none-left : (u : ℕ) (es : Marks) → lookup (is_at (nat_cmp u)) es ≡ None → others u es ≡ es
none-left u [] h = refl
none-left u (e ∷ es) h =
    let n = none_here (is_eq (nat_cmp u e.0)) e.1 (lookup (is_at (nat_cmp u)) es) h in
    ap (λ (b : Bool). cond (not b) (e ∷ others u es) (others u es)) (sym (same_number u e.0) ∙ n.0) ∙ ap (λ (l : Marks). e ∷ l) (none-left u es n.1)

pub one-removed : (u : ℕ) (es : Marks) → lookup (is_at (nat_cmp u)) (remove_entry (is_at (nat_cmp u)) es) ≡ None → remove_entry (is_at (nat_cmp u)) es ≡ filter (λ e. not (e.0 == u)) es
one-removed u [] h = refl
one-removed u (e ∷ es) h = go (is_eq (nat_cmp u e.0)) refl (one-removed u es) h
  where
    left : Marks
    left = remove_entry (is_at (nat_cmp u)) es

    go : (b : Bool) → is_eq (nat_cmp u e.0) ≡ b → (lookup (is_at (nat_cmp u)) left ≡ None → left ≡ others u es) → lookup (is_at (nat_cmp u)) (cond b es (e ∷ left)) ≡ None
        → cond b es (e ∷ left) ≡ cond (not (e.0 == u)) (e ∷ others u es) (others u es)
    go true is more h = sym (ap (λ (b : Bool). cond (not b) (e ∷ others u es) (others u es)) (sym (same_number u e.0) ∙ is) ∙ none-left u es h)
    go false is more h =
        let n = none_here (is_eq (nat_cmp u e.0)) e.1 (lookup (is_at (nat_cmp u)) left) h in
        ap (λ (l : Marks). e ∷ l) (more n.1) ∙ sym (ap (λ (b : Bool). cond (not b) (e ∷ others u es) (others u es)) (sym (same_number u e.0) ∙ is))
