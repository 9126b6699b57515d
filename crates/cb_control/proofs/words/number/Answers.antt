use Rattle.std.proofs.Common.{arith, sym, ◌∙◌}
use Rattle.std.proofs.lemmas.Bool.{false≢true}
use Rattle.std.proofs.lemmas.Str.Pattern.{starts_char}
use Rattle.cb_control.proofs.WordLemmas.{number_is}
use Rattle.cb_control.proofs.words.number.Goals as goal

pub returns : goal.returns
returns c =
    let word = c.args.word.now in
    let plus = starts_char 43 word c.starts_with.result c.starts_with.ensures.cases (omega arith) (omega arith) in
    c.ok.ensures.value ∙ number_is word c.parse.result (λ h. false≢true (sym c.if-starts_with.false ∙ plus.1 h)) c.parse.ensures.value.0
