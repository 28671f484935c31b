use Rattle.std.proofs.Common.{◌≡◌, ℕ, Bool, Vec, Global, length, arith, sym, ◌∙◌}
use Rattle.std.specs.Prelude.{bytes_eq}
use Rattle.std.specs.HashSet.{hash_set_len}
use Rattle.std.specs.Set.{distinct_count}
use Rattle.std.proofs.lemmas.Cmp.{on_equiv, nat_list_eq_equiv}
use Rattle.std.proofs.lemmas.Map.Made.{hash_set_len-from_list}
use Rattle.newt_script_words.proofs.Apart.{counted, apart_made}
use Rattle.newt_script_words.proofs.symbols.are_different.Goals as goal

pub returns : goal.returns
returns c =
    let texts = c.args.texts.items in
    let eq : Vec ℕ Global → Vec ℕ Global → Bool = λ a b. bytes_eq a.items b.items in
    let count : hash_set_len c.in_ok-set.set ≡ distinct_count eq texts = hash_set_len-from_list (on_equiv (λ (v : Vec ℕ Global). v.items) nat_list_eq_equiv) texts c.in_ok-set.set c.in_ok-set.ensures in
    let number : c.len-number.result ≡ length texts = omega (arith, c.len-number.ensures, c.args.texts.ok) in
    rw (c.len.ensures.len, count, number) (counted eq texts ∙ sym (apart_made (λ (v : Vec ℕ Global). v.items) bytes_eq texts))
