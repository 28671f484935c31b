use Rattle.std.proofs.Common.{◌≡◌, ℕ, Bool, Vec, Global, length, arith}
use Rattle.std.specs.Prelude.{bytes_eq}
use Rattle.std.specs.HashSet.{IsFromIterResult}
use Rattle.std.proofs.lemmas.Iterator.Adapters.{YieldsList-from_vec, fact_from_collect}
use Rattle.newt_script_words.proofs.symbols.set_of.Goals as goal

pub returns : goal.returns
returns c =
    let eq : Vec ℕ Global → Vec ℕ Global → Bool = λ a b. bytes_eq a.items b.items in
    let len : c.into_iter.result.rest.len ≡ length c.args.texts.items = omega (arith, c.into_iter.ensures.len, c.args.texts.ok) in
    fact_from_collect (IsFromIterResult eq) c.collect.result c.collect.ensures.ran (YieldsList-from_vec c.args.texts.items c.into_iter.ensures.rest len)
