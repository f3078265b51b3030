-- Which of two things stands decides what is meant, and the homes fit where those of either would.
use Rattle.either.specs.declared.Either.{Either}
use Rattle.either.specs.declared.Either.TheVariants.{Left, Right}
use Rattle.either.specs.Either.{either}
use Rattle.stage.specs.Meaning.{Meaning, Homes}

-- for any two types and any meaning of each, whether or not they are stages
pub either_homes : {P Q : Type 0} (mp : P → Meaning) (mq : Q → Meaning) → ((s : P) → Homes (mp s)) → ((s : Q) → Homes (mq s)) → (s : Either P Q) → Homes (either mp mq s)
either_homes mp mq hp hq (Left s) = hp s
either_homes mp mq hp hq (Right s) = hq s
