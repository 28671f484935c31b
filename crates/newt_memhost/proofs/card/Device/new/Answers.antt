use Rattle.std.proofs.Common.{◌≡◌, ◌*◌, ◌/◌, ◌<◌, ℕ, length, sym, ◌∙◌, ap, subst}
use Rattle.newt_memhost.proofs.Keeping.{no-value}
use Rattle.newt_memhost.proofs.card.Device.new.Goals as goal

pub returns-in_err-to_vec : goal.returns-in_err-to_vec
returns-in_err-to_vec c = record { name = no-value c.from_residual.result _ c.from_residual.ensures.0; first = no-value c.from_residual.result _ c.from_residual.ensures.0 }

pub returns-in_err-to_vec-2 : goal.returns-in_err-to_vec-2
returns-in_err-to_vec-2 c = record { name = no-value c.from_residual-in_err-to_vec-2.result _ c.from_residual-in_err-to_vec-2.ensures.0; first = no-value c.from_residual-in_err-to_vec-2.result _ c.from_residual-in_err-to_vec-2.ensures.0 }

pub returns-in_err-to_vec-3 : goal.returns-in_err-to_vec-3
returns-in_err-to_vec-3 c = record { name = no-value c.from_residual-in_err-to_vec-3.result _ c.from_residual-in_err-to_vec-3.ensures.0; first = no-value c.from_residual-in_err-to_vec-3.result _ c.from_residual-in_err-to_vec-3.ensures.0 }

pub returns-in_err-to_vec-4 : goal.returns-in_err-to_vec-4
returns-in_err-to_vec-4 c = record { name = no-value c.from_residual-in_err-to_vec-4.result _ c.from_residual-in_err-to_vec-4.ensures.0; first = no-value c.from_residual-in_err-to_vec-4.result _ c.from_residual-in_err-to_vec-4.ensures.0 }

pub invariant_of-result : goal.invariant_of-result
invariant_of-result c =
    let first = c.in_ok-to_vec-2.ensures.items_if_clones_equal (λ x y same. same) in
    record {
      held_is = c.in_ok-to_vec-3.ensures.items_if_clones_equal (λ x y same. same) ∙ sym first;
      logged_is = c.in_ok-to_vec-4.ensures.items_if_clones_equal (λ x y same. same) ∙ sym first;
      whole = subst (λ (n : ℕ). n ≡ n / 4096 * 4096) (sym (ap length first)) c.requires.whole;
      few = subst (λ (n : ℕ). n / 4096 < 4294967296) (sym (ap length first)) c.requires.few;
    }

pub returns : goal.returns
returns c = record { name = c.in_ok-to_vec.ensures.items_if_clones_equal (λ x y same. same) ∙ c.as_bytes.ensures.value; first = c.in_ok-to_vec-2.ensures.items_if_clones_equal (λ x y same. same) }
