-- The meetings of a node are the references that lead to it, counted up to two.
use Rattle.std.proofs.Common.{◌≡◌, ℕ, zero, suc, ◌+◌, ◌<◌, Bool, true, false, cond, eqb, List, [], ◌∷◌, ◌++◌, length, fold, set, get_or, drop, replicate, Option, Some, None, refl, sym, ap, ◌∙◌, subst, append_assoc, add-one, drop-cons, arith, length-set, get_or-set_same, get_or-set_other}
use Rattle.std.specs.Prelude.{not, ◌&&◌, count_by, nat_lt}
use Rattle.std.proofs.lemmas.Bool.{eqb-true, eqb-false}
use Rattle.std.proofs.lemmas.List.{get_or-replicate, length-replicate}
use Rattle.std.proofs.lemmas.List.Sums.{sum_by-cons}
use Rattle.newt_graph.specs.declared.node.Node.{Node}
use Rattle.newt_graph.specs.declared.node.Ref.{Ref}
use Rattle.newt_graph.specs.declared.node.Ref.TheVariants as refs
use Rattle.newt_spec_literal.specs.Printed.{leads_to, is_symbol, is_shared, labels_from}
use Rattle.newt_lit_print.specs.Meetings.{met, met_by, is_more}
use Rattle.newt_lit_print.specs.declared.labels.Meetings.{Meetings}
use Rattle.newt_lit_print.specs.declared.labels.Meetings.TheVariants.{None as NoMeeting, More}

pub tally : ℕ → Meetings → Meetings
tally zero m = m
tally (suc n) m = tally n (met m)

length-met_by : (meetings : List Meetings) (r : Ref) → length (met_by meetings r) ≡ length meetings
length-met_by meetings (refs.Imm w) = refl
length-met_by meetings (refs.Node k) = length-set meetings k (met (get_or meetings k NoMeeting))

count_cons : (n : ℕ) (r : Ref) (rs : List Ref) → count_by (leads_to n) (r ∷ rs) ≡ cond (leads_to n r) 1 0 + count_by (leads_to n) rs
count_cons n r rs = sum_by-cons (λ x. cond (leads_to n x) 1 0) r rs

-- one reference more
met_by_one : (n : ℕ) (meetings : List Meetings) (r : Ref) → n < length meetings → get_or (met_by meetings r) n NoMeeting ≡ cond (leads_to n r) (met (get_or meetings n NoMeeting)) (get_or meetings n NoMeeting)
met_by_one n meetings (refs.Imm w) lt = refl
met_by_one n meetings (refs.Node k) lt = go (eqb k n) refl
  where
    go : (b : Bool) → eqb k n ≡ b → get_or (set meetings k (met (get_or meetings k NoMeeting))) n NoMeeting ≡ cond (eqb k n) (met (get_or meetings n NoMeeting)) (get_or meetings n NoMeeting)
    go true e =
        let same : k ≡ n = eqb-true k n e in
        rw e (subst (λ (j : ℕ). get_or (set meetings j (met (get_or meetings j NoMeeting))) n NoMeeting ≡ met (get_or meetings n NoMeeting)) (sym same) (get_or-set_same meetings n (met (get_or meetings n NoMeeting)) NoMeeting lt))
    go false e = rw e (get_or-set_other meetings k n (met (get_or meetings k NoMeeting)) NoMeeting (λ same. eqb-false k n e (sym same)))

pub tallied : (n : ℕ) (rs : List Ref) (meetings : List Meetings) → n < length meetings → get_or (fold met_by meetings rs) n NoMeeting ≡ tally (count_by (leads_to n) rs) (get_or meetings n NoMeeting)
unfolding tally
tallied n [] meetings lt = refl
tallied n (r ∷ rs) meetings lt =
    tallied n rs (met_by meetings r) (rw length-met_by lt) ∙ go (leads_to n r) (met_by_one n meetings r lt) (count_cons n r rs)
  where
    go : (b : Bool) → get_or (met_by meetings r) n NoMeeting ≡ cond b (met (get_or meetings n NoMeeting)) (get_or meetings n NoMeeting) → count_by (leads_to n) (r ∷ rs) ≡ cond b 1 0 + count_by (leads_to n) rs
        → tally (count_by (leads_to n) rs) (get_or (met_by meetings r) n NoMeeting) ≡ tally (count_by (leads_to n) (r ∷ rs)) (get_or meetings n NoMeeting)
    go true one count = let more : count_by (leads_to n) (r ∷ rs) ≡ suc (count_by (leads_to n) rs) = omega (arith, count) in rw (one, more) refl
    go false one count = let same : count_by (leads_to n) (r ∷ rs) ≡ count_by (leads_to n) rs = omega (arith, count) in rw (one, same) refl

tally_more : (n : ℕ) → is_more (tally n More) ≡ true
unfolding tally
tally_more zero = refl
tally_more (suc n) = tally_more n

tally_is_more : (n : ℕ) → is_more (tally n NoMeeting) ≡ nat_lt 1 n
unfolding tally
tally_is_more zero = refl
tally_is_more (suc zero) = refl
tally_is_more (suc (suc n)) = tally_more n ∙ sym (lt_two n)
  where
    lt_two : (n : ℕ) → nat_lt 1 (suc (suc n)) ≡ true
    lt_two n = grind arith

-- what the table of meetings says of a node
pub shared_is : (rs : List Ref) (count n : ℕ) (node : Node) → n < count → is_shared rs n node ≡ (not (is_symbol node) && is_more (get_or (fold met_by (replicate count NoMeeting) rs) n NoMeeting))
shared_is rs count n node lt =
    let at : get_or (fold met_by (replicate count NoMeeting) rs) n NoMeeting ≡ tally (count_by (leads_to n) rs) NoMeeting =
    tallied n rs (replicate count NoMeeting) (rw length-replicate lt) ∙ ap (tally (count_by (leads_to n) rs)) (get_or-replicate count n NoMeeting NoMeeting lt) in
    ap (λ (b : Bool). not (is_symbol node) && b) (sym (ap is_more at ∙ tally_is_more (count_by (leads_to n) rs)))

-- ---- the labels so far and the others

next_node : (nodes : List Node) (n : ℕ) (node : Node) → n < length nodes → node ≡ get_or nodes n node → drop n nodes ≡ node ∷ drop (n + 1) nodes
next_node nodes n node lt here = drop-cons nodes n node lt ∙ ap (λ (x : Node). x ∷ drop (suc n) nodes) (sym here) ∙ ap (λ (j : ℕ). node ∷ drop j nodes) (sym (add-one n))

pub labelled_step : (rs : List Ref) (nodes : List Node) (n next : ℕ) (node : Node) (out : List (Option ℕ)) → n < length nodes → node ≡ get_or nodes n node → is_shared rs n node ≡ true
    → (out ++ Some next ∷ []) ++ labels_from rs (next + 1) (n + 1) (drop (n + 1) nodes) ≡ out ++ labels_from rs next n (drop n nodes)
labelled_step rs nodes n next node out lt here is =
    rw (next_node nodes n node lt here, labels_from, is) (append_assoc out (Some next ∷ []) (labels_from rs (next + 1) (n + 1) (drop (n + 1) nodes)))

pub unlabelled_step : (rs : List Ref) (nodes : List Node) (n next : ℕ) (node : Node) (out : List (Option ℕ)) → n < length nodes → node ≡ get_or nodes n node → is_shared rs n node ≡ false
    → (out ++ None ∷ []) ++ labels_from rs next (n + 1) (drop (n + 1) nodes) ≡ out ++ labels_from rs next n (drop n nodes)
unlabelled_step rs nodes n next node out lt here is =
    rw (next_node nodes n node lt here, labels_from, is) (append_assoc out (None ∷ []) (labels_from rs next (n + 1) (drop (n + 1) nodes)))

-- ---- tests of both

pub yes : (symbol more : Bool) → symbol ≡ false → more ≡ true → (not symbol && more) ≡ true
yes symbol more p q = rw (p, q) refl

pub no_more : (symbol more : Bool) → more ≡ false → (not symbol && more) ≡ false
no_more true more q = refl
no_more false more q = q

pub no_object : (symbol more : Bool) → symbol ≡ true → (not symbol && more) ≡ false
no_object symbol more p = rw p refl
