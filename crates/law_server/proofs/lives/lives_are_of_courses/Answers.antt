use Rattle.law_server.proofs.Course.{told-course}
use Rattle.law_server.proofs.lives.lives_are_of_courses.Goals as goal

pub returns : goal.returns
returns g c = told-course
