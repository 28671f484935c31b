-- Reading values one after another, as a loop does.
use Rattle.std.proofs.Common.{◌≡◌, ℕ, zero, suc, ◌≤◌, ◌<◌, true, false, eqb, List, [], ◌∷◌, ◌++◌, length, Option, Some, None, refl, sym, ap, ◌∙◌, append_assoc, arith}
use Rattle.newt_lit_read.specs.declared.fault.LitFault.{LitFault}
use Rattle.newt_lit_read.specs.declared.fault.LitFault.TheVariants.{Literal, Memory}
use Rattle.newt_spec_literal.specs.Built.{Built}
use Rattle.newt_graph.specs.Steps.{◌>>=◌}
use Rattle.newt_lit_read.specs.Answers.{Fails}
use Rattle.newt_lit_read.specs.Tokens.{mark_at}
use Rattle.newt_lit_read.specs.Reading.{Reader, items_at, after_value, headed}

-- what was read before, and what is still read
abbrev pub with_front : {A : Type 0} → List A → Option (List A × Built × List ℕ) → Option (List A × Built × List ℕ)
with_front front read = read >>= λ x. Some (front ++ x.0, x.1, x.2)

regroup : {A : Type 0} (front : List A) (n : A) (read : Option (List A × Built × List ℕ)) → with_front front (headed n read) ≡ with_front (front ++ n ∷ []) read
regroup {A} front n (Some x) = ap (λ (ns : List A). Some (ns, x.1, x.2)) (simp append_assoc)
regroup front n None = refl

-- values were read up to here, and enough turns are left for the rest
pub record Going {A : Type 0} (read : Reader A) (close : ℕ) (front : List A) (b : Built) (rest : List ℕ) (total : Option (List A × Built × List ℕ)) : Type 0 where
  pub turns : ℕ
  pub enough : length rest ≤ turns
  pub same : with_front front (items_at read close turns b rest) ≡ total

one_turn : {A : Type 0} (read : Reader A) (close turns : ℕ) (b : Built) (rest : List ℕ) (v : A) (then : Built) (after : List ℕ) (m : ℕ × List ℕ) → read b rest ≡ Some (v, then, after) → mark_at after ≡ Some m
    → items_at read close (suc turns) b rest ≡ after_value close (items_at read close turns) v then m
unfolding items_at
one_turn read close turns b rest v then after m h k = rw (h, k) refl

pub goes_on : {A : Type 0} (read : Reader A) (close : ℕ) (front : List A) (b : Built) (rest : List ℕ) (v : A) (then : Built) (after : List ℕ) (left : List ℕ) (total : Option (List A × Built × List ℕ))
    → eqb 44 close ≡ false → read b rest ≡ Some (v, then, after) → mark_at after ≡ Some (44, left) → length left < length rest
    → Going read close front b rest total → Going read close (front ++ v ∷ []) then left total
goes_on {A} read close front b rest v then after left total other h k lt going = go going.turns going.enough going.same
  where
    go : (turns : ℕ) → length rest ≤ turns → with_front front (items_at read close turns b rest) ≡ total → Going read close (front ++ v ∷ []) then left total
    go zero enough same = absurd (omega (arith, lt, enough))
    go (suc turns) enough same =
        let e : after_value close (items_at read close turns) v then (44, left) ≡ headed v (items_at read close turns then left) = rw other refl in
        let one : with_front front (items_at read close (suc turns) b rest) ≡ with_front (front ++ v ∷ []) (items_at read close turns then left) =
        ap (with_front front) (one_turn read close turns b rest v then after (44, left) h k ∙ e) ∙ regroup front v (items_at read close turns then left) in
        record { turns = turns; enough = omega (arith, lt, enough); same = sym one ∙ same }

pub is_done : {A : Type 0} (read : Reader A) (close : ℕ) (front : List A) (b : Built) (rest : List ℕ) (v : A) (then : Built) (after : List ℕ) (left : List ℕ) (total : Option (List A × Built × List ℕ))
    → eqb close close ≡ true → read b rest ≡ Some (v, then, after) → mark_at after ≡ Some (close, left) → length left < length rest
    → Going read close front b rest total → total ≡ Some (front ++ v ∷ [], then, left)
is_done {A} read close front b rest v then after left total same_mark h k lt going = go going.turns going.enough going.same
  where
    go : (turns : ℕ) → length rest ≤ turns → with_front front (items_at read close turns b rest) ≡ total → total ≡ Some (front ++ v ∷ [], then, left)
    go zero enough same = absurd (omega (arith, lt, enough))
    go (suc turns) enough same =
        let e : after_value close (items_at read close turns) v then (close, left) ≡ Some (v ∷ [], then, left) = rw same_mark refl in
        sym same ∙ ap (with_front front) (one_turn read close turns b rest v then after (close, left) h k ∙ e)

-- a value that is not read
pub no_value : {A : Type 0} (e : LitFault) (read : Reader A) (close : ℕ) (front : List A) (b : Built) (rest : List ℕ) (total : Option (List A × Built × List ℕ))
    → Fails e (read b rest) → Going read close front b rest total → Fails e total
unfolding items_at
no_value Memory read close front b rest total h going = tt
no_value Literal read close front b rest total h going = go going.turns going.same
  where
    go : (turns : ℕ) → with_front front (items_at read close turns b rest) ≡ total → total ≡ None
    go zero same = sym same
    go (suc turns) same = sym same ∙ rw h refl

-- a value with no mark after it
pub no_mark : {A : Type 0} (e : LitFault) (read : Reader A) (close : ℕ) (front : List A) (b : Built) (rest : List ℕ) (v : A) (then : Built) (after : List ℕ) (total : Option (List A × Built × List ℕ))
    → read b rest ≡ Some (v, then, after) → Fails e (mark_at after) → Going read close front b rest total → Fails e total
unfolding items_at
no_mark Memory read close front b rest v then after total h k going = tt
no_mark Literal read close front b rest v then after total h k going = go going.turns going.same
  where
    go : (turns : ℕ) → with_front front (items_at read close turns b rest) ≡ total → total ≡ None
    go zero same = sym same
    go (suc turns) same = sym same ∙ rw (h, k) refl

-- a value with another mark after it
pub wrong_mark : {A : Type 0} (read : Reader A) (close : ℕ) (front : List A) (b : Built) (rest : List ℕ) (v : A) (then : Built) (after : List ℕ) (m : ℕ × List ℕ) (total : Option (List A × Built × List ℕ))
    → read b rest ≡ Some (v, then, after) → mark_at after ≡ Some m → eqb m.0 close ≡ false → eqb m.0 44 ≡ false → Going read close front b rest total → total ≡ None
unfolding items_at
wrong_mark {A} read close front b rest v then after m total h k not_close not_comma going = go going.turns going.same
  where
    go : (turns : ℕ) → with_front front (items_at read close turns b rest) ≡ total → total ≡ None
    go zero same = sym same
    go (suc turns) same =
        let e : after_value close (items_at read close turns) v then m ≡ None = rw (not_close, not_comma) refl in
        sym same ∙ ap (with_front front) (one_turn read close turns b rest v then after m h k ∙ e)
