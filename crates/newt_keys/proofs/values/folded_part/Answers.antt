use Rattle.std.proofs.Common.{◌∙◌, ap, chars, encode_utf8_all}
use Rattle.caseless.specs.Caseless.{default_case_fold}
use Rattle.newt_spec_store.specs.Keys.{words}
use Rattle.newt_keys.proofs.values.folded_part.Goals as goal

pub returns-clause-value : goal.returns-clause-value
returns-clause-value c =
    c.text_of.ensures.value
    ∙ ap words (ap (λ v. v.items) c.into_bytes.ensures.value ∙ c.in_ok-folded.ensures.bytes
    ∙ ap (λ cs. encode_utf8_all (default_case_fold cs))
    (ap chars c.as_str.ensures.value ∙ c.in_ok-text.ensures.chars))
