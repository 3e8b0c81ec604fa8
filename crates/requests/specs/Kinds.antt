-- The kinds of request.
use Rattle.payload.specs.declared.answer.Request.{Request}
use Rattle.payload.specs.declared.answer.Request.TheVariants.{Unknown, Invalid, Ask, Watch, Unwatch, Start, End, Introduce, Release, DomainPath}
use Rattle.payload.specs.declared.answer.Request.TheVariants.{IsIntroduced, Reset}

-- it asks nothing of a node
abbrev pub AsksNoNode : Request → Type 0
AsksNoNode Unknown = Unit {0}
AsksNoNode Invalid = Unit {0}
AsksNoNode (Ask a p) = ⊥
AsksNoNode (Watch p a e k) = Unit {0}
AsksNoNode (Unwatch p a e) = Unit {0}
AsksNoNode Start = Unit {0}
AsksNoNode (End b) = Unit {0}
AsksNoNode (Introduce i p c) = Unit {0}
AsksNoNode (Release i) = Unit {0}
AsksNoNode (DomainPath i) = Unit {0}
AsksNoNode (IsIntroduced i) = Unit {0}
AsksNoNode Reset = Unit {0}
