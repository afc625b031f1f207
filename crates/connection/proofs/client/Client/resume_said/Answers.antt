use Rattle.connection.proofs.Called.{resumes_any}
use Rattle.connection.proofs.client.Client.resume_said.Goals as goal

pub returns-clause-resumes : goal.returns-clause-resumes
returns-clause-resumes c = resumes_any _ _ _ _ c.resume.ensures.resumes
