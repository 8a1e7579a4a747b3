mod Lawfully
