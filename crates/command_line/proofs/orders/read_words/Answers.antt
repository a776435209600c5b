use Rattle.std.proofs.Common.{rules, ap, sym, refl, true, ◌≡◌, ◌∙◌, map, string_bytes, subst, option_map}
use Rattle.clap.specs.Kinds.{FailsBy}
use Rattle.clap.specs.Faults.{fault_of, is_simple_and_free}
use Rattle.clap.proofs.OnLiterals.{clap_on_literals}
use Rattle.clap.specs.Simple.{is_simple, subcommand_of}
use Rattle.command_line.specs.Orders.{order_of, program_words}
use Rattle.command_line.proofs.orders.read_words.Goals as goal

is_free : is_simple_and_free program_words ≡ true
unfolding clap_on_literals
is_free = refl

pub returns-clause-fault : goal.returns-clause-fault
returns-clause-fault c =
    ap (λ a. fault_of a (map string_bytes c.args.words.now)) (sym c.in_ok-program.ensures.words)
    ∙ c.in_ok-matches.ensures.kinds (ap is_simple_and_free c.in_ok-program.ensures.words ∙ is_free)

pub returns-in_err-matches-clause-fault : goal.returns-in_err-matches-clause-fault
returns-in_err-matches-clause-fault c =
    let told : FailsBy (fault_of program_words (map string_bytes c.args.words.now)) c.try_get_matches_from.result =
    subst (λ a. FailsBy (fault_of a (map string_bytes c.args.words.now)) c.try_get_matches_from.result) c.in_ok-program.ensures.words
    (c.try_get_matches_from.ensures.kinds (ap is_simple_and_free c.in_ok-program.ensures.words ∙ is_free)) in
    search (rules, told)

is_plain : is_simple program_words ≡ true
unfolding clap_on_literals
is_plain = refl

-- The program requires a subcommand, so words that are read have one.
pub order_from-requires : goal.order_from-requires
order_from-requires c = search (rules, c.in_ok-program.ensures.words)

pub returns-clause-order : goal.returns-clause-order
returns-clause-order c =
    let rows = (c.in_ok-matches.ensures.matches (ap is_simple c.in_ok-program.ensures.words ∙ is_plain)).1
    ∙ ap (λ a. subcommand_of a (map string_bytes c.args.words.now)) c.in_ok-program.ensures.words in
    ap (option_map (λ p. order_of p.0 p.1)) (sym rows) ∙ c.order_from.ensures
