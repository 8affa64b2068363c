use Rattle.comparison.proofs.look.Look.failing.Goals as goal

pub returns-in-Some : goal.returns-in-Some
returns-in-Some g c = λ looks ready fits. c.in-Some.ensures ready looks.known_one looks.small_one fits

pub returns-in_ok-blame-in-None : goal.returns-in_ok-blame-in-None
returns-in_ok-blame-in-None g c = λ looks ready fits. c.in_ok-blame-in-None.ensures ready looks.known_two looks.small_two fits
