-- Reading pieces one after another up to a closing mark, as a loop does.
use Rattle.std.proofs.Common.{◌≡◌, ℕ, zero, suc, ◌≤◌, ◌<◌, List, [], ◌++◌, length, Option, Some, None, refl, sym, ap, ◌∙◌, append_assoc, arith}
use Rattle.std.proofs.lemmas.List.{append-nil}
use Rattle.newt_graph.specs.Steps.{◌>>=◌}
use Rattle.newt_lit_read.specs.declared.fault.LitFault.{LitFault}
use Rattle.newt_lit_read.specs.declared.fault.LitFault.TheVariants.{Literal, Memory}
use Rattle.newt_lit_read.specs.Answers.{Fails}
use Rattle.newt_lit_read.specs.Tokens.{Next, pieces_at}

abbrev pub with_front : List ℕ → Option (List ℕ × List ℕ) → Option (List ℕ × List ℕ)
with_front front read = read >>= λ x. Some (front ++ x.0, x.1)

-- pieces were read up to here, and enough turns are left for the rest
pub record Going (value : ℕ → List ℕ) (next : Next) (front rest : List ℕ) (total : Option (List ℕ × List ℕ)) : Type 0 where
  pub turns : ℕ
  pub enough : length rest ≤ turns
  pub same : with_front front (pieces_at value next turns rest) ≡ total

regroup : (front us : List ℕ) (read : Option (List ℕ × List ℕ)) → with_front front (read >>= λ u. Some (us ++ u.0, u.1)) ≡ with_front (front ++ us) read
regroup front us (Some x) = ap (λ (ns : List ℕ). Some (ns, x.1)) (sym (append_assoc front us x.0))
regroup front us None = refl

pub goes_on : (value : ℕ → List ℕ) (next : Next) (front rest after : List ℕ) (code : ℕ) (total : Option (List ℕ × List ℕ)) → next rest ≡ Some (Some code, after) → length after < length rest → Going value next front rest total → Going value next (front ++ value code) after total
unfolding pieces_at
goes_on value next front rest after code total h lt going = go going.turns going.enough going.same
  where
    go : (turns : ℕ) → length rest ≤ turns → with_front front (pieces_at value next turns rest) ≡ total → Going value next (front ++ value code) after total
    go zero enough same = absurd (omega (arith, enough, lt))
    go (suc turns) enough same =
        let one : with_front front (pieces_at value next (suc turns) rest) ≡ with_front (front ++ value code) (pieces_at value next turns after) = rw h (regroup front (value code) (pieces_at value next turns after)) in
        record { turns = turns; enough = omega (arith, lt, enough); same = sym one ∙ same }

pub is_done : (value : ℕ → List ℕ) (next : Next) (front rest after : List ℕ) (total : Option (List ℕ × List ℕ)) → next rest ≡ Some (None, after) → length after < length rest → Going value next front rest total → total ≡ Some (front, after)
unfolding pieces_at
is_done value next front rest after total h lt going = go going.turns going.enough going.same
  where
    go : (turns : ℕ) → length rest ≤ turns → with_front front (pieces_at value next turns rest) ≡ total → total ≡ Some (front, after)
    go zero enough same = absurd (omega (arith, enough, lt))
    go (suc turns) enough same =
        let one : with_front front (pieces_at value next (suc turns) rest) ≡ Some (front ++ [], after) = rw h refl in
        sym same ∙ one ∙ ap (λ (ns : List ℕ). Some (ns, after)) (append-nil front)

pub no_piece : (value : ℕ → List ℕ) (next : Next) (e : LitFault) (front rest : List ℕ) (total : Option (List ℕ × List ℕ)) → Fails e (next rest) → Going value next front rest total → Fails e total
unfolding pieces_at
no_piece value next Memory front rest total h going = tt
no_piece value next Literal front rest total h going = go going.turns going.same
  where
    go : (turns : ℕ) → with_front front (pieces_at value next turns rest) ≡ total → total ≡ None
    go zero same = sym same
    go (suc turns) same = sym same ∙ rw h refl
