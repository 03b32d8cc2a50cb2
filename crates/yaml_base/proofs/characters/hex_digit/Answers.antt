use Rattle.yaml_base.proofs.Common.{◌==◌, slice_index, nat_lt, false, true, refl, eqb-true, ltb-true, agree_below_at, is_break, hex_digit}
use Rattle.yaml_base.specs.declared.characters.TheConstants.{HEX_DIGITS}
use Rattle.yaml_base.proofs.characters.hex_digit.Goals as goal

pub returns-clause-value : goal.returns-clause-value
returns-clause-value c =
    eqb-true _ _ (agree_below_at (λ d. slice_index HEX_DIGITS d == hex_digit d) (λ d. true) 16 c.args.digit refl c.requires)

pub returns-clause-ascii : goal.returns-clause-ascii
returns-clause-ascii c = ltb-true _ _ (agree_below_at (λ d. nat_lt (slice_index HEX_DIGITS d) 128) (λ d. true) 16 c.args.digit refl c.requires)

pub returns-clause-no_break : goal.returns-clause-no_break
returns-clause-no_break c = agree_below_at (λ d. is_break (slice_index HEX_DIGITS d)) (λ d. false) 16 c.args.digit refl c.requires
