use Rattle.std.proofs.Common.{arith}
use Rattle.std.proofs.lemmas.Bool.Decides.{not_from_Decides}
use Rattle.character.proofs.Encodings.{no_char, of_two, of_three, of_four}
use Rattle.character.proofs.decoder.character.Goals as goal

pub returns-in-194-to-223-len1-up : goal.returns-in-194-to-223-len1-up
returns-in-194-to-223-len1-up c = of_two c.args.first c.args.behind.now _ (omega arith) (omega arith) (omega arith) (c.may_follow.ensures.0 c.if-may_follow.true) c.spelled.ensures

pub returns-in-224-to-239-len2-up : goal.returns-in-224-to-239-len2-up
returns-in-224-to-239-len2-up c = of_three c.args.first c.args.behind.now _ (omega arith) (omega arith) (omega arith) (c.may_follow-then-this-lt240.ensures.0 c.if-may_follow-2.true) (c.is_tail.ensures.0 c.if-is_tail.true) c.spelled-in-224-to-239-len2-up.ensures

pub returns-in-240-to-244-len3-up : goal.returns-in-240-to-244-len3-up
returns-in-240-to-244-len3-up c = of_four c.args.first c.args.behind.now _ (omega arith) (omega arith) (omega arith) (c.may_follow-then-this-lt245.ensures.0 c.if-may_follow-3.true) (c.is_tail-then-may_follow-3.ensures.0 c.if-is_tail-2.true) (c.is_tail-then-is_tail-2.ensures.0 c.if-is_tail-3.true) c.spelled-in-240-to-244-len3-up.ensures

pub returns-in_default : goal.returns-in_default
returns-in_default c = no_char _ (λ w. omega (arith, w.lead (omega arith)))

pub returns-in_default-2 : goal.returns-in_default-2
returns-in_default-2 c = no_char _ (λ w. omega (arith, w.lead (omega arith)))

pub returns-in_default-3 : goal.returns-in_default-3
returns-in_default-3 c = no_char _ (λ w. not_from_Decides _ c.may_follow.ensures c.if-may_follow.false (w.lead (omega arith)).3)

pub returns-in_default-4 : goal.returns-in_default-4
returns-in_default-4 c = no_char _ (λ w. omega (arith, w.third (omega arith)))

pub returns-in_default-5 : goal.returns-in_default-5
returns-in_default-5 c = no_char _ (λ w. not_from_Decides _ c.is_tail.ensures c.if-is_tail.false (w.third (omega arith)).1)

pub returns-in_default-6 : goal.returns-in_default-6
returns-in_default-6 c = no_char _ (λ w. not_from_Decides _ c.may_follow-then-this-lt240.ensures c.if-may_follow-2.false (w.lead (omega arith)).3)

pub returns-in_default-7 : goal.returns-in_default-7
returns-in_default-7 c = no_char _ (λ w. omega (arith, w.fourth (omega arith)))

pub returns-in_default-8 : goal.returns-in_default-8
returns-in_default-8 c = no_char _ (λ w. not_from_Decides _ c.is_tail-then-is_tail-2.ensures c.if-is_tail-3.false (w.fourth (omega arith)).1)

pub returns-in_default-9 : goal.returns-in_default-9
returns-in_default-9 c = no_char _ (λ w. not_from_Decides _ c.is_tail-then-may_follow-3.ensures c.if-is_tail-2.false (w.third (omega arith)).1)

pub returns-in_default-10 : goal.returns-in_default-10
returns-in_default-10 c = no_char _ (λ w. not_from_Decides _ c.may_follow-then-this-lt245.ensures c.if-may_follow-3.false (w.lead (omega arith)).3)

pub returns-in_default-11 : goal.returns-in_default-11
returns-in_default-11 c = no_char _ (λ w. omega (arith, w.lead (omega arith)))
